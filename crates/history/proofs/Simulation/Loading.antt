-- The relation through the steps of a loading machine, and through those that leave what it speaks of: sync requests, replay, answers that
-- nobody awaits, ask again, a damaged journal answer, and the crash.
use Rattle.std.specs.Prelude.{ℕ, Bool, true, false, cond, ◌≡◌, refl, List}
use Rattle.std.proofs.Common.{sym, ◌∙◌, ap, subst, subst₂, arith}
use Rattle.std.proofs.Math.Option.{Option, none, some, some-injective}
use Rattle.laws.specs.Choice.{ruin}
use Rattle.layout.specs.declared.Geometry.{Geometry}
use Rattle.interval.specs.declared.JournalInterval.{JournalInterval}
use Rattle.interval.specs.Journal.{JournalBlock, cyclic_slice}
use Rattle.superblock.specs.declared.Superblock.{Superblock}
use Rattle.superblock.specs.Superblock.{select_superblock, wf_superblock}
use Rattle.superblock.specs.Laws.{WFSuperblock}
use Rattle.laws.specs.Sets.{Map, bind, unbind, same_value, keys, Two, at, put, none_some, at_both}
use Rattle.codec.specs.Codec.{JournalEntry, JournalRange, Codec}
use Rattle.source.specs.JournalDisk as D
use Rattle.source.specs.JournalDisk.{DiskOp}
use Rattle.source.specs.JournalCache as M
use Rattle.source.specs.JournalCache.{SuperblockReadResult, SuperblockSuccess, SuperblockCorruption, superblock_read, journal_interval_of_superblock}
use Rattle.source.specs.Departures.{FinishLoadingOtherPhase⁺}
use Rattle.history.specs.Ledger.{blocks, Kept, Ledger, fresh}
use Rattle.codec.specs.Ranges.{whole, full_whole, blocks_none}
use Rattle.history.proofs.Journal.Slots.{Slots, picked_is, slots_value, slots_wf_is}
use Rattle.history.proofs.Simulation.Relation.{super_of, quiet, Told, Pieces, ReadsStand, Runs, Sim}

-- a superblock read that came back whole and well formed is the answer's
pub read_success : (g : Geometry) (o : Option Superblock) (v : Superblock) → superblock_read g o ≡ SuperblockSuccess v → o ≡ some v
read_success g none v e = ruin (cc)
read_success g (some x) v e = go (wf_superblock g x) e
  where
    go : (b : Bool) → cond b (SuperblockSuccess x) SuperblockCorruption ≡ SuperblockSuccess v → some x ≡ some v
    go true q = cc
    go false q = ruin (cc)

-- a result put in a slot's place
pub told_put : (results : Two SuperblockReadResult) (slots : Two (Option Superblock)) (which : Bool) (r : SuperblockReadResult) → Told results slots
    → ((v : Superblock) → r ≡ SuperblockSuccess v → at slots which ≡ some v) → Told (put results which r) slots
told_put results slots true r t f true v e = f v e
told_put results slots true r t f false v e = t false v e
told_put results slots false r t f true v e = t true v e
told_put results slots false r t f false v e = f v e

-- a piece put in its place
pub pieces_put : (g : Geometry) (superblock : Superblock) (pieces : Two (Option JournalRange)) (j : List (Option JournalBlock)) (which : Bool) (jr : JournalRange)
    → Pieces g superblock pieces j
    → ((v : JournalInterval) → journal_interval_of_superblock g which superblock ≡ some v → whole jr ≡ cyclic_slice g j v)
    → Pieces g superblock (put pieces which (some jr)) j
pieces_put g superblock pieces j true jr t f true x v e q = ap whole (some-injective x jr (sym e)) ∙ f v q
pieces_put g superblock pieces j true jr t f false x v e q = t false x v e q
pieces_put g superblock pieces j false jr t f true x v e q = t true x v e q
pieces_put g superblock pieces j false jr t f false x v e q = ap whole (some-injective x jr (sym e)) ∙ f v q

module _ (g : Geometry) (C : Codec) (p : ℕ) where
  pub by_next : {m m' : M.Variables} {d d' : D.Variables} {l : Ledger} → m' ≡ m → d' ≡ d → Sim g C p m d l → Sim g C p m' d' l
  by_next {l = l} e f z = subst₂ (λ (m : M.Variables) (d : D.Variables). Sim g C p m d l) (sym e) (sym f) z

  -- the statement of a machine step's lemma: its relation, the disk's, and what the ledger makes of it
  abbrev pub Keeps : (M.Variables → M.Variables → DiskOp → Type 0) → (Ledger → Ledger) → Type 0
  Keeps R f =
      (m m' : M.Variables) (d d' : D.Variables) (l : Ledger) (dop : DiskOp) → Sim g C p m d l → R m m' dop → D.Next g d d' dop → Sim g C p m' d' (f l)

  -- sync requests play no part
  pub sim_sync : (m : M.Variables) (d : D.Variables) (l : Ledger) (t : Map M.SyncReqStatus) → Sim g C p m d l → Sim g C p (M.with_sync_reqs t m) d l
  sim_sync (M.Variables.LoadingSuperblock s) d l t z = record { slot = z.slot; disk = z.disk; runs = z.runs }
  sim_sync (M.Variables.LoadingOther s) d l t z = record { slot = z.slot; disk = z.disk; runs = z.runs }
  sim_sync (M.Variables.Ready s) d l t z = record { slot = z.slot; disk = z.disk; runs = z.runs }

  pub sim_superblock_req : (which : Bool) → Keeps (λ m m' dop. M.PageInSuperblockReq m m' dop which) (λ l. l)
  sim_superblock_req which (M.Variables.LoadingSuperblock s) m' d d' l dop z h hd =
      by_next h.next (subst (D.Next g d d') h.op hd).next (record { slot = z.slot; disk = z.disk; runs = z.runs })
  sim_superblock_req which (M.Variables.LoadingOther s) m' d d' l dop z h hd = absurd h
  sim_superblock_req which (M.Variables.Ready s) m' d d' l dop z h hd = absurd h

  pub sim_superblock_resp : (which : Bool) → Keeps (λ m m' dop. M.PageInSuperblockResp g m m' dop which) (λ l. l)
  sim_superblock_resp which (M.Variables.LoadingSuperblock s) m' d d' l dop z h hd =
      by_next h.next a.next
      (record {
        slot = z.slot;
        disk = z.disk;
        runs = (
          z.runs.0,
          told_put s.superblocks d.superblocks which (superblock_read g h.superblock) z.runs.1
              (λ v e. let q = read_success g h.superblock v e in sym (a.whole v q) ∙ q),
        );
      })
    where
      a : D.AckReadSuperblock d d' h.id which h.superblock
      a = subst (D.Next g d d') h.op hd
  sim_superblock_resp which (M.Variables.LoadingOther s) m' d d' l dop z h hd = absurd h
  sim_superblock_resp which (M.Variables.Ready s) m' d d' l dop z h hd = absurd h

  -- both slots' superblocks were read, so the selected one is the disk's
  pub sim_finish_superblocks : Keeps M.FinishLoadingSuperblockPhase (λ l. l)
  sim_finish_superblocks (M.Variables.LoadingSuperblock s) m' d d' l dop z h hd =
      by_next h.next (subst (D.Next g d d') h.op hd).next
      (record {
        slot = z.slot;
        disk = z.disk;
        runs = (
          z.runs.0,
          record {
            superblock_is = (λ i. select_superblock (one i) (two i)) ∙ picked_is at_slots.values ∙ ap (at at_slots.values) at_slots.picks ∙ at_slots.is;
            which_is = (λ i. M.selected_second (one i) (two i)) ∙ at_slots.picks;
            pieces_are = λ piece jr v e. none_some (at_both none piece) e;
          },
        );
      })
    where
      at_slots : Slots g d.superblocks z.slot (super_of C l.kept)
      at_slots = z.disk.selected

      one : h.superblock1 ≡ at_slots.values.first
      one = slots_value g d.superblocks z.slot (super_of C l.kept) at_slots false h.superblock1 (z.runs.1 false h.superblock1 h.success1)

      two : h.superblock2 ≡ at_slots.values.second
      two = slots_value g d.superblocks z.slot (super_of C l.kept) at_slots true h.superblock2 (z.runs.1 true h.superblock2 h.success2)
  sim_finish_superblocks (M.Variables.LoadingOther s) m' d d' l dop z h hd = absurd h
  sim_finish_superblocks (M.Variables.Ready s) m' d d' l dop z h hd = absurd h

  pub sim_journal_req : (which : Bool) → Keeps (λ m m' dop. M.PageInJournalReq g m m' dop which) (λ l. l)
  sim_journal_req which (M.Variables.LoadingSuperblock s) m' d d' l dop z h hd = absurd h
  sim_journal_req which (M.Variables.LoadingOther s) m' d d' l dop z h hd =
      by_next h.next (subst (D.Next g d d') h.op hd).next (record { slot = z.slot; disk = z.disk; runs = z.runs })
  sim_journal_req which (M.Variables.Ready s) m' d d' l dop z h hd = absurd h

  -- a piece that was read is what its interval holds, since its read stands at the disk under that interval
  pub sim_journal_resp : (which : Bool) (m m' : M.Variables) (d d' : D.Variables) (l : Ledger) (dop : DiskOp) → Sim g C p m d l → ReadsStand g m d
      → M.PageInJournalResp m m' dop which → D.Next g d d' dop → Sim g C p m' d' l
  sim_journal_resp which (M.Variables.LoadingSuperblock s) m' d d' l dop z r h hd = absurd h
  sim_journal_resp which (M.Variables.LoadingOther s) m' d d' l dop z r h hd =
      by_next h.next a.next
      (record {
        slot = z.slot;
        disk = z.disk;
        runs = (
          z.runs.0,
          record {
            superblock_is = z.runs.1.superblock_is;
            which_is = z.runs.1.which_is;
            pieces_are = pieces_put g s.superblock s.journal_pieces d.journal which h.jr z.runs.1.pieces_are read;
          },
        );
      })
    where
      a : D.AckReadJournal g d d' h.id (some h.jr)
      a = subst (D.Next g d d') h.op hd

      read : (v : JournalInterval) → journal_interval_of_superblock g which s.superblock ≡ some v → whole h.jr ≡ cyclic_slice g d.journal v
      read v e =
          ap whole (a.whole h.jr refl)
          ∙ full_whole (cyclic_slice g d.journal a.ind) (a.readable h.jr refl).full
          ∙ ap (cyclic_slice g d.journal) (same_value a.waiting (r which h.id v h.waiting e))
  sim_journal_resp which (M.Variables.Ready s) m' d d' l dop z r h hd = absurd h

  -- the pieces are the kept ranges' blocks, but for the parser this is all that loading's end needs: the machine stands on what is kept
  pub sim_finish_other : Keeps (FinishLoadingOtherPhase⁺ g C) (λ l. l)
  sim_finish_other (M.Variables.LoadingSuperblock s) m' d d' l dop z h hd = absurd h.source
  sim_finish_other (M.Variables.LoadingOther s) (M.Variables.LoadingSuperblock s') d d' l dop z h hd = absurd h.position_is
  sim_finish_other (M.Variables.LoadingOther s) (M.Variables.LoadingOther s') d d' l dop z h hd = absurd h.position_is
  sim_finish_other (M.Variables.LoadingOther s) (M.Variables.Ready s') d d' l dop z h hd =
      by_next refl (subst (D.Next g d d') h.source.op hd).next
      (subst (Sim g C p (M.Variables.Ready s') d) (sym z.runs.0.ledger_is)
      (record { slot = z.slot; disk = z.disk; runs = live }))
    where
      f : M.FinishLoadingOtherPhaseClauses g C s s' dop
      f = h.source

      k : Kept
      k = l.kept

      len : s'.writtenJournalLen ≡ blocks C k.ranges
      len = f.written_journal_len_is ∙ ap (λ (v : Superblock). v.journalLen) z.runs.1.superblock_is

      wf : WFSuperblock g (super_of C k)
      wf = slots_wf_is g d.superblocks z.slot (super_of C k) z.disk.selected

      live : Runs g C (M.Variables.Ready s') d (fresh k) z.slot
      live =
          record {
            frozen_is = f.in_memory_journal_frozen_is;
            memory_is = f.in_memory_journal_is;
            received = λ x e. none_some f.frozen_loc_is e;
            received_valid = λ x e. none_some f.frozen_loc_is e;
            ids = (λ i. keys (z.runs.0.none_writing i)) ∙ sym f.outstanding_journal_writes_is;
            phase =
                quiet
                (record {
                  flight_is = λ i. record { superblock_write = f.superblock_write_is i; commit_status = f.commit_status_is i; new_superblock = f.new_superblock_is i };
                  writes_are = z.runs.0.writes_are;
                  request_is = refl;
                })
                (record {
                  superblock_is = f.superblock_is ∙ z.runs.1.superblock_is;
                  which_is = f.which_superblock_is ∙ z.runs.1.which_is;
                  len_is = len;
                  position_is = h.position_is ∙ sym (blocks_none C);
                  longer = omega (arith, len);
                  len_in = omega (arith, len, wf.len_in);
                  holds = z.disk.holds;
                  good = z.disk.good;
                });
          }
  sim_finish_other (M.Variables.Ready s) m' d d' l dop z h hd = absurd h.source

  -- sync requests and replay
  pub sim_push : (id : ℕ) → Keeps (λ m m' dop. M.PushSyncReq m m' dop id) (λ l. l)
  sim_push id m m' d d' l dop z h hd = by_next h.next (subst (D.Next g d d') h.op hd).next (sim_sync m d l (bind (M.sync_reqs_of m) id M.SyncReqStatus.State3) z)

  pub sim_pop : (id : ℕ) → Keeps (λ m m' dop. M.PopSyncReq m m' dop id) (λ l. l)
  sim_pop id m m' d d' l dop z h hd = by_next h.next (subst (D.Next g d d') h.op hd).next (sim_sync m d l (unbind (M.sync_reqs_of m) id) z)

  pub sim_replay : (es : List JournalEntry) → Keeps (λ m m' dop. M.Replay m m' dop es) (λ l. l)
  sim_replay es (M.Variables.LoadingSuperblock s) m' d d' l dop z h hd = absurd h
  sim_replay es (M.Variables.LoadingOther s) m' d d' l dop z h hd = absurd h
  sim_replay es (M.Variables.Ready s) (M.Variables.LoadingSuperblock s') d d' l dop z h hd = absurd h
  sim_replay es (M.Variables.Ready s) (M.Variables.LoadingOther s') d d' l dop z h hd = absurd h
  sim_replay es (M.Variables.Ready s) (M.Variables.Ready s') d d' l dop z h hd =
      by_next (ap M.Variables.Ready h.next) (subst (D.Next g d d') h.op hd).next (record { slot = z.slot; disk = z.disk; runs = z.runs })
