-- A machine that is loaded after a crash, by reads answered whole and the two finishing steps: at Ready it is the machine that the ledger
-- tells, in every field but the slot, and the slot goes with the counter.
use Rattle.std.specs.Prelude.{ℕ, ◌-◌, ◌≤◌, ◌<◌, Bool, true, false, ◌≡◌, refl, List, [], ◌++◌, length}
use Rattle.std.proofs.Common.{sym, ◌∙◌, ap, subst, append-nil}
use Rattle.std.proofs.lemmas.List.{map-append}
use Rattle.std.proofs.Math.Option.{Option, some, get_or}
use Rattle.laws.specs.Choice.{false_true}
use Rattle.laws.specs.Cut.{flat}
use Rattle.layout.specs.declared.Geometry.{Geometry}
use Rattle.interval.specs.declared.JournalInterval.{JournalInterval}
use Rattle.interval.specs.Interval.{interval, journal_front_interval, journal_back_interval}
use Rattle.interval.specs.Journal.{JournalBlock, cyclic_slice}
use Rattle.interval.proofs.Laws.{FrontBack, parts_none, parts_straight, parts_wrapped, parts_cases, slice_of, front_back_slice}
use Rattle.superblock.specs.declared.Superblock.{Superblock}
use Rattle.laws.specs.Sets.{no_keys, at, same_value}
use Rattle.codec.specs.Codec.{JournalRange, Codec}
use Rattle.source.specs.JournalDisk as D
use Rattle.source.specs.JournalDisk.{DiskOp}
use Rattle.source.specs.JournalCache as M
use Rattle.source.specs.JournalCache.{loaded_range, loaded}
use Rattle.source.specs.JournalSystem as Y
use Rattle.source.specs.Limits.{Limits}
use Rattle.source.specs.Departures.{FinishLoadingOtherPhase⁺, Event, Allowed}
use Rattle.history.specs.Ledger.{Call, write_journal, journal_written, commit_log, commit_location, superblock_written, read_journal, journal_read, read_superblock, superblock_read, finish_superblocks, finish_other, freeze, receive, add, replay, push_sync, pop_sync, no_op, ask_again, land, crash, nonsense, blocks, Ledger, tell, Shown, shown}
use Rattle.codec.specs.Ranges.{codes, whole, whole_same, length_codes, parse_codes}
use Rattle.history.proofs.Journal.Slots.{parity}
use Rattle.history.proofs.Simulation.Relation.{super_of, Pieces, Sim}
use Rattle.history.specs.Statement.{Tied, tied_write, tied_written, unawaited_written, tied_log, tied_location, tied_committed, unawaited_committed, tied_page, tied_paged, tied_damaged, unawaited_paged, unawaited_damaged, tied_read, tied_superblock, tied_corrupt, unawaited_superblock, unawaited_corrupt, tied_finish_superblocks, tied_finish_other, tied_freeze, tied_receive, tied_add, tied_replay, tied_push, tied_pop, tied_no_op, tied_again, tied_land, tied_crash, Takes, loads, ready_by}

-- a machine on its way from a crash to Ready, with no other step
abbrev pub Clean : ℕ → M.Variables → Shown → Type 0
Clean p (M.Variables.LoadingSuperblock s) v = s.sync_reqs ≡ no_keys
Clean p (M.Variables.LoadingOther s) v = s.sync_reqs ≡ no_keys
Clean p (M.Variables.Ready r) v = (w : Bool) × (parity v.counter w ≡ p) × (r ≡ ready_by v w)

by_machine : (p : ℕ) (m m' : M.Variables) (v : Shown) → m' ≡ m → Clean p m v → Clean p m' v
by_machine p m m' v e c = subst (λ (n : M.Variables). Clean p n v) (sym e) c

-- the pieces that were read, in front and back, are what the superblock's interval holds
module _ (g : Geometry) (s : M.LoadingOtherVariables) (j : List (Option JournalBlock)) (size : length j ≡ g.blocks) (start_in : s.superblock.journalStart < g.blocks)
    (len_in : s.superblock.journalLen ≤ g.blocks) (pieces : Pieces g s.superblock s.journal_pieces j)
    (front_in_is : (v : JournalInterval) → journal_front_interval g s.superblock.journalStart s.superblock.journalLen ≡ some v → (jr : JournalRange) × (at s.journal_pieces false ≡ some jr))
    (back_in_is : (v : JournalInterval) → journal_back_interval g s.superblock.journalStart s.superblock.journalLen ≡ some v → (jr : JournalRange) × (at s.journal_pieces true ≡ some jr)) where
  abbrev front : JournalRange
  front = get_or (at s.journal_pieces false) []

  abbrev back : JournalRange
  back = get_or (at s.journal_pieces true) []

  front_whole : (v : JournalInterval) → journal_front_interval g s.superblock.journalStart s.superblock.journalLen ≡ some v → whole front ≡ cyclic_slice g j v
  front_whole v e = ap (λ (o : Option JournalRange). whole (get_or o [])) (front_in_is v e).1 ∙ pieces false (front_in_is v e).0 v (front_in_is v e).1 e

  back_whole : (v : JournalInterval) → journal_back_interval g s.superblock.journalStart s.superblock.journalLen ≡ some v → whole back ≡ cyclic_slice g j v
  back_whole v e = ap (λ (o : Option JournalRange). whole (get_or o [])) (back_in_is v e).1 ∙ pieces true (back_in_is v e).0 v (back_in_is v e).1 e

  pub loaded_whole : whole (loaded g s) ≡ cyclic_slice g j (interval s.superblock.journalStart s.superblock.journalLen)
  loaded_whole =
      parts_cases g start len
      (λ h. let p = parts_none g start len h in to p refl)
      (λ h k. let p = parts_straight g start len h k in to p (front_whole (interval start len) p.front_is ∙ sym (append-nil (cyclic_slice g j (interval start len)))))
      (λ k.
      let p = parts_wrapped g start len k in
      to p
      (map-append some front back
      ∙ (λ i. front_whole (interval start (g.blocks - start)) p.front_is i ++ back_whole (interval 0 (len - (g.blocks - start))) p.back_is i)))
    where
      start : ℕ
      start = s.superblock.journalStart

      len : ℕ
      len = s.superblock.journalLen

      to : {a b : Option JournalInterval} → FrontBack g start len a b → whole (loaded_range b a front back) ≡ slice_of g j a ++ slice_of g j b
          → whole (loaded g s) ≡ cyclic_slice g j (interval start len)
      to p q =
          (λ i. whole (loaded_range (p.back_is i) (p.front_is i) front back))
          ∙ q
          ∙ sym (λ i. slice_of g j (p.front_is i) ++ slice_of g j (p.back_is i))
          ∙ sym (front_back_slice g j size (interval start len) (record { start_in = start_in; len_in = len_in }))

-- each loading step
module _ (p : ℕ) (v : Shown) where
  clean_read : (which : Bool) (m m' : M.Variables) (dop : DiskOp) → Clean p m v → M.PageInSuperblockReq m m' dop which → Clean p m' v
  clean_read which (M.Variables.LoadingSuperblock s) m' dop c h = by_machine p _ m' v h.next c
  clean_read which (M.Variables.LoadingOther s) m' dop c h = absurd h
  clean_read which (M.Variables.Ready s) m' dop c h = absurd h

  clean_superblock : (g : Geometry) (which : Bool) (m m' : M.Variables) (dop : DiskOp) → Clean p m v → M.PageInSuperblockResp g m m' dop which → Clean p m' v
  clean_superblock g which (M.Variables.LoadingSuperblock s) m' dop c h = by_machine p _ m' v h.next c
  clean_superblock g which (M.Variables.LoadingOther s) m' dop c h = absurd h
  clean_superblock g which (M.Variables.Ready s) m' dop c h = absurd h

  clean_finish_superblocks : (m m' : M.Variables) (dop : DiskOp) → Clean p m v → M.FinishLoadingSuperblockPhase m m' dop → Clean p m' v
  clean_finish_superblocks (M.Variables.LoadingSuperblock s) m' dop c h = by_machine p _ m' v h.next c
  clean_finish_superblocks (M.Variables.LoadingOther s) m' dop c h = absurd h
  clean_finish_superblocks (M.Variables.Ready s) m' dop c h = absurd h

  clean_page : (g : Geometry) (which : Bool) (m m' : M.Variables) (dop : DiskOp) → Clean p m v → M.PageInJournalReq g m m' dop which → Clean p m' v
  clean_page g which (M.Variables.LoadingSuperblock s) m' dop c h = absurd h
  clean_page g which (M.Variables.LoadingOther s) m' dop c h = by_machine p _ m' v h.next c
  clean_page g which (M.Variables.Ready s) m' dop c h = absurd h

  clean_paged : (which : Bool) (m m' : M.Variables) (dop : DiskOp) → Clean p m v → M.PageInJournalResp m m' dop which → Clean p m' v
  clean_paged which (M.Variables.LoadingSuperblock s) m' dop c h = absurd h
  clean_paged which (M.Variables.LoadingOther s) m' dop c h = by_machine p _ m' v h.next c
  clean_paged which (M.Variables.Ready s) m' dop c h = absurd h

-- loading's end: the pieces are the kept ranges' blocks, so they parse to the ledger's entries
clean_finish_other : (g : Geometry) (C : Codec) (p : ℕ) (m m' : M.Variables) (d : D.Variables) (l : Ledger) (dop : DiskOp) → Sim g C p m d l → Clean p m (shown C l)
    → FinishLoadingOtherPhase⁺ g C m m' dop → Clean p m' (shown C l)
clean_finish_other g C p (M.Variables.LoadingSuperblock s) m' d l dop z c h = absurd h.source
clean_finish_other g C p (M.Variables.LoadingOther s) (M.Variables.LoadingSuperblock r) d l dop z c h = absurd h.position_is
clean_finish_other g C p (M.Variables.LoadingOther s) (M.Variables.LoadingOther r) d l dop z c h = absurd h.position_is
clean_finish_other g C p (M.Variables.LoadingOther s) (M.Variables.Ready r) d l dop z c h = (z.slot, z.disk.parity_is, is)
  where
    f : M.FinishLoadingOtherPhaseClauses g C s r dop
    f = h.source

    e : s.superblock ≡ super_of C l.kept
    e = z.runs.1.superblock_is

    blocks_are : loaded g s ≡ codes C l.kept.ranges
    blocks_are =
        whole_same (loaded g s) (codes C l.kept.ranges)
        (loaded_whole g s d.journal z.disk.size f.start_in f.len_in z.runs.1.pieces_are f.front_in_is f.back_in_is
        ∙ (λ i. cyclic_slice g d.journal (interval (e i).journalStart (e i).journalLen))
        ∙ ap (λ (n : ℕ). cyclic_slice g d.journal (interval l.kept.start n)) (sym (length_codes C l.kept.ranges))
        ∙ z.disk.holds)

    replayed : r.replay_journal ≡ flat l.kept.ranges
    replayed = same_value f.parses (ap C.parse_journal_range blocks_are ∙ parse_codes C l.kept.ranges z.disk.good)

    is : r ≡ ready_by (shown C l) z.slot
    is = λ i.
        record {
          frozenLoc = f.frozen_loc_is i;
          isFrozen = f.is_frozen_is i;
          frozenJournalPosition = h.position_is i;
          superblock_write = f.superblock_write_is i;
          in_memory_journal_frozen = f.in_memory_journal_frozen_is i;
          in_memory_journal = f.in_memory_journal_is i;
          outstanding_journal_writes = f.outstanding_journal_writes_is i;
          writtenJournalLen = (f.written_journal_len_is ∙ ap (λ (v : Superblock). v.journalLen) e) i;
          replay_journal = replayed i;
          superblock = (f.superblock_is ∙ e) i;
          whichSuperblock = (f.which_superblock_is ∙ z.runs.1.which_is) i;
          commit_status = f.commit_status_is i;
          new_superblock = f.new_superblock_is i;
          sync_reqs = (f.sync_reqs_is ∙ c) i;
        }
clean_finish_other g C p (M.Variables.Ready s) m' d l dop z c h = absurd h.source

-- a call of a load that is taken leaves the machine clean, and the ledger as it is
module _ (g : Geometry) (C : Codec) (L : Limits) (p : ℕ) (s t : Y.Variables) (l : Ledger) (z : Sim g C p s.machine s.disk l) (c : Clean p s.machine (shown C l)) where
  clean_tied : (x : Call) (e : Event) → Tied x e → loads x ≡ true → Allowed g C L s t e → Clean p t.machine (shown C l)
  unfolding loads
  clean_tied x e tied_write h a = false_true h
  clean_tied x e tied_written h a = false_true h
  clean_tied x e unawaited_written h a = false_true h
  clean_tied x e tied_log h a = false_true h
  clean_tied x e tied_location h a = false_true h
  clean_tied x e tied_committed h a = false_true h
  clean_tied x e unawaited_committed h a = false_true h
  clean_tied x e (tied_page {which = which}) h a = clean_page p (shown C l) g which s.machine t.machine _ c a.step.machine
  clean_tied x e tied_paged h a = clean_paged p (shown C l) a.step.machine.0 s.machine t.machine _ c a.step.machine.1
  clean_tied x e tied_damaged h a = false_true h
  clean_tied x e unawaited_paged h a = by_machine p s.machine t.machine (shown C l) a.step.machine.source.next c
  clean_tied x e unawaited_damaged h a = false_true h
  clean_tied x e (tied_read {which = which}) h a = clean_read p (shown C l) which s.machine t.machine _ c a.step.machine.source
  clean_tied x e (tied_superblock {which = which}) h a = clean_superblock p (shown C l) g which s.machine t.machine _ c a.step.machine
  clean_tied x e tied_corrupt h a = false_true h
  clean_tied x e unawaited_superblock h a = by_machine p s.machine t.machine (shown C l) a.step.machine.source.next c
  clean_tied x e unawaited_corrupt h a = false_true h
  clean_tied x e tied_finish_superblocks h a = clean_finish_superblocks p (shown C l) s.machine t.machine _ c a.step.machine
  clean_tied x e tied_finish_other h a = clean_finish_other g C p s.machine t.machine s.disk l _ z c a.step.machine
  clean_tied x e tied_freeze h a = false_true h
  clean_tied x e tied_receive h a = false_true h
  clean_tied x e tied_add h a = false_true h
  clean_tied x e tied_replay h a = false_true h
  clean_tied x e tied_push h a = false_true h
  clean_tied x e tied_pop h a = false_true h
  clean_tied x e tied_no_op h a = false_true h
  clean_tied x e tied_again h a = false_true h
  clean_tied x e tied_land h a = false_true h
  clean_tied x e tied_crash h a = false_true h

  pub clean_step : (x : Call) → loads x ≡ true → Takes g C L s t x → Clean p t.machine (shown C l)
  clean_step x h k = clean_tied x k.event k.tied h k.allowed

pub loads_tell : (g : Geometry) (C : Codec) (x : Call) (l : Ledger) → loads x ≡ true → tell g C x l ≡ l
unfolding loads tell
loads_tell g C (write_journal id1 id2) l h = false_true h
loads_tell g C (journal_written id) l h = refl
loads_tell g C (commit_log id) l h = false_true h
loads_tell g C (commit_location id) l h = false_true h
loads_tell g C (superblock_written id) l h = refl
loads_tell g C (read_journal which id) l h = refl
loads_tell g C (journal_read id whole) l h = refl
loads_tell g C (read_superblock which id) l h = refl
loads_tell g C (superblock_read which id whole) l h = refl
loads_tell g C finish_superblocks l h = refl
loads_tell g C finish_other l h = refl
loads_tell g C freeze l h = false_true h
loads_tell g C (receive loc) l h = false_true h
loads_tell g C (add es) l h = false_true h
loads_tell g C (replay es) l h = refl
loads_tell g C (push_sync id) l h = refl
loads_tell g C (pop_sync id) l h = refl
loads_tell g C no_op l h = refl
loads_tell g C (ask_again which) l h = refl
loads_tell g C (land which) l h = false_true h
loads_tell g C crash l h = false_true h
loads_tell g C nonsense l h = refl
