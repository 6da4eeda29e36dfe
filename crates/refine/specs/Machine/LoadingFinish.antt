-- 000's FinishLoadingOtherPhase, the half that loading has: the pieces that are there are in, and the range that is parsed is the front of lent
-- memory, as many blocks as the superblock's journalLen.
use Rattle.std.specs.Prelude.{ℕ, ◌*◌, ◌≤◌, ◌<◌, true, false, ◌≡◌, List, [], ◌++◌, take}
use Rattle.std.proofs.Common.{sym, ◌∙◌}
use Rattle.std.proofs.Math.Path.{ap}
use Rattle.std.proofs.Math.Option.{Option, some, get_or}
use Rattle.laws.specs.Cut.{cut, flat}
use Rattle.laws.specs.Sets.{Map, at}
use Rattle.layout.specs.declared.Geometry.{Geometry}
use Rattle.layout.specs.Geometry.{num_journal_blocks}
use Rattle.interval.specs.declared.JournalInterval.{JournalInterval}
use Rattle.interval.proofs.Laws.{len_of, parts_none, parts_straight, parts_wrapped, parts_cases}
use Rattle.superblock.specs.Superblock.{journal_front_interval_of_superblock, journal_back_interval_of_superblock}
use Rattle.codec.specs.Codec.{JournalRange, Codec}
use Rattle.source.specs.JournalDisk.{DiskOp}
use Rattle.source.specs.JournalCache.{SyncReqStatus, ReadyVariables, LoadingOtherVariables, loaded_range, loaded, FinishLoadingOtherPhaseClauses}
use Rattle.loading.specs.declared.Piece.{Piece}
use Rattle.loading.specs.declared.LoadingOther.{LoadingOther}
use Rattle.loading.specs.Other.{front_blocks, back_blocks, loading_other_ok, ask_finish_loading_other_phase, loaded_blocks}
use Rattle.loading.specs.Laws.Other.{There, LoadingOtherOk, loading_other_facts, front_blocks_is, blocks_add, FinishLoadingOtherPhaseAsked, finish_loading_other_phase_asked, asked_finish_loading_other_phase}
use Rattle.refine.specs.Machine.LoadingView.{blocks_in, front_in, back_in, loaded_piece, loading_other_of}
use Rattle.refine.specs.Machine.LoadingSeen.{loaded_is}
use Rattle.refine.specs.Machine.LoadedBlocks.{flat_blocks, blocks_append}

-- the clauses of FinishLoadingOtherPhase that speak of the state before, and what its `full_range` is
pub record LoadedClauses (g : Geometry) (s : LoadingOtherVariables) (range : JournalRange) : Type 0 where
  pub start_in : s.superblock.journalStart < num_journal_blocks g
  pub len_in : s.superblock.journalLen ≤ num_journal_blocks g
  pub front_in_is : (v : JournalInterval) → journal_front_interval_of_superblock g s.superblock ≡ some v → (jr : JournalRange) × (at s.journal_pieces false ≡ some jr)
  pub back_in_is : (v : JournalInterval) → journal_back_interval_of_superblock g s.superblock ≡ some v → (jr : JournalRange) × (at s.journal_pieces true ≡ some jr)
  pub loaded_is : loaded g s ≡ range

module _ (g : Geometry) (pieces : List ℕ) (s : LoadingOther) (y : Map SyncReqStatus) where
  abbrev seen : LoadingOtherVariables
  seen = loading_other_of g pieces s y

  module _ (k : loading_other_ok g s ≡ true) (e : ask_finish_loading_other_phase g s ≡ 0) where
    ok : LoadingOtherOk g s
    ok = loading_other_facts g s k

    ins : FinishLoadingOtherPhaseAsked g s
    ins = finish_loading_other_phase_asked g s e

    front_got : There (journal_front_interval_of_superblock g s.superblock) → get_or (loaded_piece s.front (front_in g pieces s.superblock)) [] ≡ front_in g pieces s.superblock
    front_got t = ap (λ (p : Piece). get_or (loaded_piece p (front_in g pieces s.superblock)) []) (ins.front_in_is t)

    back_got : There (journal_back_interval_of_superblock g s.superblock) → get_or (loaded_piece s.back (back_in g pieces s.superblock)) [] ≡ back_in g pieces s.superblock
    back_got t = ap (λ (p : Piece). get_or (loaded_piece p (back_in g pieces s.superblock)) []) (ins.back_in_is t)

    abbrev range_by : Option JournalInterval → Option JournalInterval → JournalRange
    range_by b f = loaded_range b f (get_or (at seen.journal_pieces false) []) (get_or (at seen.journal_pieces true) [])

    pub finish_loading_other_phase_loads : loaded g (loading_other_of g pieces s y) ≡ blocks_in (loaded_blocks s) pieces
    unfolding cut
    finish_loading_other_phase_loads =
        parts_cases g s.superblock.journalStart s.superblock.journalLen
        (λ h.
        let p = parts_none g s.superblock.journalStart s.superblock.journalLen h in
        (λ i. range_by (p.back_is i) (p.front_is i)) ∙ ap (λ (n : ℕ). blocks_in n pieces) (sym h))
        (λ h l.
        let p = parts_straight g s.superblock.journalStart s.superblock.journalLen h l in
        (λ i. range_by (p.back_is i) (p.front_is i))
        ∙ front_got (_, p.front_is)
        ∙ ap (λ (n : ℕ). blocks_in n pieces) (front_blocks_is g s.superblock ∙ ap len_of p.front_is))
        (λ l.
        let p = parts_wrapped g s.superblock.journalStart s.superblock.journalLen l in
        (λ i. range_by (p.back_is i) (p.front_is i))
        ∙ (λ i. front_got (_, p.front_is) i ++ back_got (_, p.back_is) i)
        ∙ blocks_append (front_blocks g s.superblock) (back_blocks g s.superblock) pieces
        ∙ ap (λ (n : ℕ). blocks_in n pieces) (blocks_add g s.superblock ok.superblock_wf))

    -- and as bytes
    pub finish_loading_other_phase_bytes : flat (loaded g (loading_other_of g pieces s y)) ≡ take (loaded_blocks s * 4096) pieces
    finish_loading_other_phase_bytes = ap flat finish_loading_other_phase_loads ∙ flat_blocks (loaded_blocks s) pieces

    pub finish_loading_other_phase_sound : LoadedClauses g (loading_other_of g pieces s y) (blocks_in (loaded_blocks s) pieces)
    finish_loading_other_phase_sound =
        record {
          start_in = ok.superblock_wf.start_in;
          len_in = ok.superblock_wf.len_in;
          front_in_is = λ v t. (front_in g pieces s.superblock, ap (λ (p : Piece). loaded_piece p (front_in g pieces s.superblock)) (ins.front_in_is (v, t)));
          back_in_is = λ v t. (back_in g pieces s.superblock, ap (λ (p : Piece). loaded_piece p (back_in g pieces s.superblock)) (ins.back_in_is (v, t)));
          loaded_is = finish_loading_other_phase_loads;
        }

  pub finish_loading_other_phase_complete : (C : Codec) (s' : ReadyVariables) (dop : DiskOp) → FinishLoadingOtherPhaseClauses g C (loading_other_of g pieces s y) s' dop
      → ask_finish_loading_other_phase g s ≡ 0
  finish_loading_other_phase_complete C s' dop h =
      asked_finish_loading_other_phase g s
      (record {
        front_in_is = λ t. let p = h.front_in_is t.0 t.1 in loaded_is s.front (front_in g pieces s.superblock) p.0 p.1;
        back_in_is = λ t. let p = h.back_in_is t.0 t.1 in loaded_is s.back (back_in g pieces s.superblock) p.0 p.1;
      })
