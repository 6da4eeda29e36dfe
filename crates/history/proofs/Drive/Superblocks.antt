-- The driver while superblocks are loaded: from any state that meets question 2, and where what was read is what the slots hold, the call that it
-- names is taken, and one less is left.
use Rattle.std.specs.Prelude.{ℕ, suc, Bool, true, false, cond, not, ◌≡◌, refl}
use Rattle.std.proofs.Common.{sym, ◌∙◌, ap, inl, arith}
use Rattle.std.proofs.Math.Option.{Option, none, some}
use Rattle.laws.specs.Choice.{true_false}
use Rattle.layout.specs.declared.Geometry.{Geometry}
use Rattle.superblock.specs.declared.Superblock.{Superblock}
use Rattle.superblock.specs.Superblock.{select_superblock}
use Rattle.superblock.specs.Laws.{facts_superblock}
use Rattle.laws.specs.Sets.{Ids, join, leave, Two, both, at, put, at_put, at_put_other, join_here, empty_ids}
use Rattle.codec.specs.Codec.{Codec}
use Rattle.source.specs.JournalDisk as D
use Rattle.source.specs.JournalDisk.{ReqId, DiskOp, ReqReadSuperblockOp, ReqReadJournalOp, ReqWriteSuperblockOp, ReqWriteJournalOp, RespReadSuperblockOp, RespReadJournalOp, RespWriteSuperblockOp, RespWriteJournalOp, NoDiskOp}
use Rattle.source.specs.JournalCache as M
use Rattle.source.specs.JournalCache.{SuperblockReadResult, SuperblockSuccess, SuperblockUnfinished, SuperblockCorruption, PageInSuperblockReqStep, PageInSuperblockRespStep, FinishLoadingSuperblockPhaseStep, selected_second, journal_interval_of_superblock}
use Rattle.source.specs.JournalSystem as Y
use Rattle.source.specs.JournalSystem.{DiskHasSuperblockIn}
use Rattle.source.specs.Limits.{Limits, MachineCounts}
use Rattle.source.specs.Meets.{SystemMeets, one_id, awaited_superblock_reads, awaited_journal_writes}
use Rattle.source.specs.Within.{EventArguments}
use Rattle.source.specs.Departures.{Source, AskAgainStep, MachineStep}
use Rattle.history.specs.Ledger.{Call, read_superblock, superblock_read, finish_superblocks, ask_again}
use Rattle.history.specs.Statement.{tied_read, tied_superblock, tied_again, tied_finish_superblocks, Takes}
use Rattle.history.proofs.Simulation.Relation.{Told}
use Rattle.history.specs.Driver.{slot_next, or_else, next_call, New, slot_left, piece_left, slots_left, selected_left, left_at, left}

-- a call that is taken, with what its being within the limits needs
pub record Moves (g : Geometry) (C : Codec) (L : Limits) (s t : Y.Variables) (x : Call) : Type 0 where
  pub takes : Takes g C L s t x
  pub counts : MachineCounts L t.machine
  pub unwritten : awaited_journal_writes t.machine ≡ empty_ids
  pub arguments : EventArguments g L takes.event

-- to a state that has one less left
pub record Driven (g : Geometry) (C : Codec) (L : Limits) (s : Y.Variables) (x : Call) : Type 0 where
  pub next : Y.Variables
  pub moves : Moves g C L s next x
  pub one_less : left g s ≡ suc (left g next)

-- the id of a read's request
abbrev read_id : DiskOp → ℕ
read_id (ReqReadSuperblockOp id which) = id
read_id (ReqReadJournalOp id interval) = id
read_id (ReqWriteSuperblockOp id which req) = id
read_id (ReqWriteJournalOp id1 id2 req) = id1
read_id (RespReadSuperblockOp id which superblock) = id
read_id (RespReadJournalOp id journal) = id
read_id (RespWriteSuperblockOp id which) = id
read_id (RespWriteJournalOp id) = id
read_id NoDiskOp = 0

module _ (g : Geometry) (C : Codec) (L : Limits) (s : M.LoadingSuperblockVariables) (d : D.Variables) where
  abbrev here : Y.Variables
  here = record { machine = M.Variables.LoadingSuperblock s; disk = d }

  module _ (meets : SystemMeets g L here) where
    -- the disk holds what the slot awaits
    pub holds_read : (which : Bool) (id : ReqId) → at s.outstanding_superblock_reads which ≡ some id → at d.req_read_superblocks which id ≡ true
    holds_read which id e = ap (λ (r : Two Ids). at r which id) meets.joined.superblock_reads_is ∙ go which e
      where
        go : (which : Bool) → at s.outstanding_superblock_reads which ≡ some id → at (awaited_superblock_reads (M.Variables.LoadingSuperblock s)) which id ≡ true
        go false e = ap (λ (o : Option ReqId). one_id o id) e ∙ join_here empty_ids id
        go true e = ap (λ (o : Option ReqId). one_id o id) e ∙ join_here empty_ids id

    -- what a slot holds
    in_slot : (which : Bool) → DiskHasSuperblockIn g d which
    in_slot false = meets.joined.wf.first
    in_slot true = meets.joined.wf.second

    -- one slot has one less left, the other as many as it had
    slot_less : (t : M.LoadingSuperblockVariables) (which : Bool) → slots_left t (not which) ≡ slots_left s (not which) → slots_left s which ≡ suc (slots_left t which)
        → left g here ≡ suc (left_at g (M.Variables.LoadingSuperblock t) d.superblocks)
    slot_less t false p q = omega (arith, p, q)
    slot_less t true p q = omega (arith, p, q)

    again_driven : (which : Bool) → at s.superblocks which ≡ SuperblockCorruption → Driven g C L here (ask_again which)
    again_driven which e =
        record {
          next = record { machine = M.Variables.LoadingSuperblock t; disk = d };
          moves =
              record {
                takes =
                    record {
                      event = MachineStep NoDiskOp (AskAgainStep which);
                      tied = tied_again;
                      allowed = record { meets = meets; step = record { machine = record { op = refl; corrupt = e; next = refl }; disk = record { next = refl } } };
                    };
                counts = record { sync_few = meets.machine.counts.sync_few };
                unwritten = refl;
                arguments = tt;
              };
          one_less = slot_less t which (ap (slot_left (at s.outstanding_superblock_reads (not which))) (at_put_other s.superblocks which SuperblockUnfinished)) go;
        }
      where
        t : M.LoadingSuperblockVariables
        t = M.to_superblocks (put s.superblocks which SuperblockUnfinished) s

        unread : at s.outstanding_superblock_reads which ≡ none
        unread = meets.machine.inv.corruption_read which e

        now : slots_left t which ≡ 2
        now = λ i. slot_left (unread i) (at_put s.superblocks which SuperblockUnfinished i)

        was : slots_left s which ≡ 3
        was = ap (slot_left (at s.outstanding_superblock_reads which)) e

        go : slots_left s which ≡ suc (slots_left t which)
        go = omega (arith, now, was)

    -- a slot is asked for
    abbrev pub asked : Bool → ReqId → Y.Variables
    asked which new =
        record {
          machine = M.Variables.LoadingSuperblock (M.to_outstanding_superblock_reads (put s.outstanding_superblock_reads which (some new)) s);
          disk = D.to_req_read_superblocks (put d.req_read_superblocks which (join (at d.req_read_superblocks which) new)) d;
        }

    pub ask_moves : (which : Bool) (new : ReqId) → New d new → at s.outstanding_superblock_reads which ≡ none → at s.superblocks which ≡ SuperblockUnfinished
        → Moves g C L here (asked which new) (read_superblock which new)
    ask_moves which new fresh unread unfinished =
        record {
          takes =
              record {
                event = MachineStep (ReqReadSuperblockOp new which) (Source (PageInSuperblockReqStep which));
                tied = tied_read;
                allowed =
                    record {
                      meets = meets;
                      step =
                          record {
                            machine =
                                record {
                                  source = record { id = new; op = refl; no_read = unread; unfinished = unfinished; next = refl };
                                  other_slot_is = λ o.
                                      let id_is : new ≡ o.0 = ap read_id o.1 in
                                      true_false (sym (holds_read (not which) new (o.2 ∙ ap (λ (i : ℕ). some i) (sym id_is))) ∙ fresh.superblocks (not which));
                                };
                            disk = record { new1 = fresh.superblocks false; new2 = fresh.superblocks true; next = refl };
                          };
                    };
              };
          counts = record { sync_few = meets.machine.counts.sync_few };
          unwritten = refl;
          arguments = record { few = omega arith; fit = tt };
        }

    ask_driven : (which : Bool) (new : ReqId) → New d new → at s.outstanding_superblock_reads which ≡ none → at s.superblocks which ≡ SuperblockUnfinished
        → Driven g C L here (read_superblock which new)
    ask_driven which new fresh unread unfinished =
        record {
          next = asked which new;
          moves = ask_moves which new fresh unread unfinished;
          one_less = slot_less t which (ap (λ (o : Option ReqId). slot_left o (at s.superblocks (not which))) (at_put_other s.outstanding_superblock_reads which (some new))) go;
        }
      where
        t : M.LoadingSuperblockVariables
        t = M.to_outstanding_superblock_reads (put s.outstanding_superblock_reads which (some new)) s

        now : slots_left t which ≡ 1
        now = λ i. slot_left (at_put s.outstanding_superblock_reads which (some new) i) (unfinished i)

        was : slots_left s which ≡ 2
        was = λ i. slot_left (unread i) (unfinished i)

        go : slots_left s which ≡ suc (slots_left t which)
        go = omega (arith, now, was)

    answer_driven : (which : Bool) (id : ReqId) → at s.outstanding_superblock_reads which ≡ some id → at s.superblocks which ≡ SuperblockUnfinished
        → Driven g C L here (superblock_read which id true)
    answer_driven which id reads unfinished =
        record {
          next = record { machine = M.Variables.LoadingSuperblock t; disk = D.to_req_read_superblocks (put d.req_read_superblocks which (leave (at d.req_read_superblocks which) id)) d };
          moves =
              record {
                takes =
                    record {
                      event = MachineStep (RespReadSuperblockOp id which (some v)) (Source (PageInSuperblockRespStep which));
                      tied = tied_superblock;
                      allowed =
                          record {
                            meets = meets;
                            step =
                                record {
                                  machine = record { id = id; superblock = some v; op = refl; waiting = reads; next = refl };
                                  disk = record { waiting = holds_read which id reads; whole = λ y e. sym (in_slot which).holds; next = refl };
                                };
                          };
                    };
                counts = record { sync_few = meets.machine.counts.sync_few };
                unwritten = refl;
                arguments = record { few = omega arith; fit = tt };
              };
          one_less =
              slot_less t which
              (λ i. slot_left (at_put_other s.outstanding_superblock_reads which none i) (at_put_other s.superblocks which (M.superblock_read g (some v)) i)) go;
        }
      where
        v : Superblock
        v = (in_slot which).value

        t : M.LoadingSuperblockVariables
        t = M.to_outstanding_superblock_reads (put s.outstanding_superblock_reads which none) (M.to_superblocks (put s.superblocks which (M.superblock_read g (some v))) s)

        whole_read : M.superblock_read g (some v) ≡ SuperblockSuccess v
        whole_read = ap (λ (b : Bool). cond b (SuperblockSuccess v) SuperblockCorruption) (facts_superblock g v (in_slot which).wf)

        now : slots_left t which ≡ 0
        now = λ i. slot_left (at_put s.outstanding_superblock_reads which none i) ((at_put s.superblocks which (M.superblock_read g (some v)) ∙ whole_read) i)

        was : slots_left s which ≡ 1
        was = λ i. slot_left (reads i) (unfinished i)

        go : slots_left s which ≡ suc (slots_left t which)
        go = omega (arith, now, was)

    finish_driven : Told s.superblocks d.superblocks → (v1 v2 : Superblock) → at s.superblocks false ≡ SuperblockSuccess v1 → at s.superblocks true ≡ SuperblockSuccess v2 → Driven g C L here finish_superblocks
    finish_driven told v1 v2 e1 e2 =
        record {
          next = record { machine = M.Variables.LoadingOther t; disk = d };
          moves =
              record {
                takes =
                    record {
                      event = MachineStep NoDiskOp (Source FinishLoadingSuperblockPhaseStep);
                      tied = tied_finish_superblocks;
                      allowed =
                          record {
                            meets = meets;
                            step =
                                record {
                                  machine =
                                      record {
                                        op = refl;
                                        superblock1 = v1;
                                        success1 = e1;
                                        superblock2 = v2;
                                        success2 = e2;
                                        one_success = inl e1;
                                        next = refl;
                                        loc = (select_superblock v1 v2).indirectionTableLoc;
                                        loc_is = refl;
                                      };
                                  disk = record { next = refl };
                                };
                          };
                    };
                counts = record { sync_few = meets.machine.counts.sync_few };
                unwritten = refl;
                arguments = record { few = omega arith; fit = tt };
              };
          one_less =
              let first : slots_left s false ≡ 0 = ap (slot_left (at s.outstanding_superblock_reads false)) e1 in
              let second : slots_left s true ≡ 0 = ap (slot_left (at s.outstanding_superblock_reads true)) e2 in
              let front = pieces false in
              let back = pieces true in
              omega (arith, first, second, front, back);
        }
      where
        t : M.LoadingOtherVariables
        t = record { superblock = select_superblock v1 v2; whichSuperblock = selected_second v1 v2; journalReads = both none; journal_pieces = both none; sync_reqs = s.sync_reqs }

        pieces : (which : Bool) → selected_left g d.superblocks.first d.superblocks.second which ≡ piece_left (journal_interval_of_superblock g which (select_superblock v1 v2)) none none
        pieces which = λ i. selected_left g (told false v1 e1 i) (told true v2 e2 i) which

    -- a slot that was read
    record Through (which : Bool) : Type 0 where
      value : Superblock
      read : at s.superblocks which ≡ SuperblockSuccess value

    -- the call that a slot names is taken; else it was read
    data Slot (new : ReqId) (which : Bool) : Type 0 where
      names : (x : Call) → slot_next new which (at s.outstanding_superblock_reads which) (at s.superblocks which) ≡ some x → Driven g C L here x → Slot new which
      through : slot_next new which (at s.outstanding_superblock_reads which) (at s.superblocks which) ≡ none → Through which → Slot new which

    slot : (which : Bool) (new : ReqId) → New d new → Slot new which
    slot which new fresh = go (at s.outstanding_superblock_reads which) (at s.superblocks which) refl refl
      where
        go : (o : Option ReqId) (r : SuperblockReadResult) → at s.outstanding_superblock_reads which ≡ o → at s.superblocks which ≡ r → Slot new which
        go o (SuperblockSuccess v) p q = through (ap (slot_next new which (at s.outstanding_superblock_reads which)) q) (record { value = v; read = q })
        go o SuperblockCorruption p q = names (ask_again which) (ap (slot_next new which (at s.outstanding_superblock_reads which)) q) (again_driven which q)
        go none SuperblockUnfinished p q = names (read_superblock which new) (λ i. slot_next new which (p i) (q i)) (ask_driven which new fresh p q)
        go (some id) SuperblockUnfinished p q = names (superblock_read which id true) (λ i. slot_next new which (p i) (q i)) (answer_driven which id p q)

    pub superblocks_driven : Told s.superblocks d.superblocks → (new : ReqId) → New d new → (x : Call) × (next_call g (M.Variables.LoadingSuperblock s) new ≡ some x) × Driven g C L here x
    superblocks_driven told new fresh = first (slot false new fresh)
      where
        n1 : Option Call
        n1 = slot_next new false (at s.outstanding_superblock_reads false) (at s.superblocks false)

        n2 : Option Call
        n2 = slot_next new true (at s.outstanding_superblock_reads true) (at s.superblocks true)

        second : Through false → n1 ≡ none → Slot new true → (x : Call) × (next_call g (M.Variables.LoadingSuperblock s) new ≡ some x) × Driven g C L here x
        second a e (names x f h) = (x, λ i. some (or_else (e i) (or_else (f i) finish_superblocks)), h)
        second a e (through f b) = (finish_superblocks, λ i. some (or_else (e i) (or_else (f i) finish_superblocks)), finish_driven told a.value b.value a.read b.read)

        first : Slot new false → (x : Call) × (next_call g (M.Variables.LoadingSuperblock s) new ≡ some x) × Driven g C L here x
        first (names x e h) = (x, λ i. some (or_else (e i) (or_else n2 finish_superblocks)), h)
        first (through e a) = second a e (slot true new fresh)
