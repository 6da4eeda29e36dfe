-- The joined test says yes exactly where the view of machine and disk is `Joined`: what the machine awaits is, in the disk's form, the source's,
-- kind by kind; the rest is the disk's alone.
use Prim.Native.Nat.{ℕ, zero, suc, ◌≤◌}
use Rattle.std.specs.Prelude.{true, not, cond, ◌≡◌, List, eqb, None, Some}
use Rattle.std.specs.declared.option.Option as code
use Rattle.std.proofs.Math.Path.{refl, sym, ap}
use Rattle.std.proofs.Common.{◌∙◌, arith}
use Rattle.std.proofs.Math.Option.{Option, none, some, some-injective}
use Rattle.laws.specs.Choice.{also_left, also_right, also_both, false_true, ruin}
use Rattle.laws.specs.Sets.{Map, no_keys, ids_of, Two, both, put, each_of}
use Rattle.laws.specs.Optional.{optional, option_of, option_same}
use Rattle.layout.specs.declared.Geometry.{Geometry}
use Rattle.interval.specs.declared.JournalInterval.{JournalInterval}
use Rattle.superblock.specs.declared.Superblock.{Superblock}
use Rattle.superblock.specs.Superblock.{journal_front_interval_of_superblock, journal_back_interval_of_superblock}
use Rattle.superblock.specs.Laws.{WFSuperblock, superblock_facts, facts_superblock}
use Rattle.tables.specs.Rows.{Counted}
use Rattle.tables.specs.IdTable.{id_set, added_id}
use Rattle.tables.proofs.Laws.IdTables.{ids_empty}
use Rattle.tables.proofs.Laws.IntervalTables.{same_facts, facts_same}
use Rattle.loading.specs.declared.SlotRead.{SlotRead}
use Rattle.loading.specs.declared.SlotRead.TheVariants as slot_read
use Rattle.loading.specs.declared.Piece.{Piece}
use Rattle.loading.specs.declared.Piece.TheVariants as piece
use Rattle.loading.specs.Other.{front_of}
use Rattle.loading.specs.Which.{is_second}
use Rattle.ready.specs.declared.Commit.{Commit}
use Rattle.ready.specs.declared.Commit.TheVariants as commit
use Rattle.source.specs.JournalDisk.{ReqWriteSuperblockId}
use Rattle.source.specs.JournalSystem.{WFDisk}
use Rattle.source.specs.Meets.{one_id, bind_read, new_write, awaited_superblock_reads, awaited_journal_reads, awaited_superblock_writes, awaited_journal_writes, Joined}
use Rattle.machine.specs.declared.Machine.{Machine}
use Rattle.machine.specs.Lent.{Lent}
use Rattle.requests.specs.declared.SuperblockWrite.{SuperblockWrite}
use Rattle.requests.specs.Slots.{SuperblockWrites, put_slot}
use Rattle.disk.specs.declared.Disk.{Disk}
use Rattle.requests.specs.Laws.Pairs.{slot_pair}
use Rattle.joined.specs.declared.Awaited.{Awaited}
use Rattle.joined.specs.declared.AwaitedRead.{AwaitedRead}
use Rattle.joined.specs.Awaited.{slot_ids, piece_awaited, pieces_awaited, commit_write, commit_writes, superblocks_await, other_awaits, ready_awaits, awaited_by, reading}
use Rattle.joined.specs.Apart.{slot_wf, slots_wf, rows_clear, selected_interval, clear_by, writes_clear}
use Rattle.joined.specs.Joined.{joined_by, joined_ok}
use Rattle.joined.proofs.Laws.Held.{reads_facts, facts_reads, read_bound, awaited_map, ReadsDiffer, journal_reads_facts, facts_journal_reads, writes_facts, facts_writes}
use Rattle.joined.proofs.Laws.Apart.{apart_facts, facts_apart, clear_facts, facts_clear}
use Rattle.refine.specs.Disk.View.{write_in, disk_of, SizedDisk}
use Rattle.refine.specs.Disk.Meets.{counted_own, Met}
use Rattle.refine.specs.Machine.LoadingView.{outstanding_read, awaited_read}
use Rattle.refine.specs.Machine.ReadyView.{write_of, new_of}
use Rattle.refine.specs.Machine.MachineView.{machine_of, MachineMet}
use Rattle.refine.specs.Machine.MachineKinds.{by_kind_is}
use Rattle.refine.specs.Store.View.{store_of}

-- What the machine awaits

-- a slot's read
slot_awaits_is : (s : SlotRead) → id_set (slot_ids s) ≡ one_id (outstanding_read s)
unfolding added_id ids_of
slot_awaits_is slot_read.Unasked = refl
slot_awaits_is (slot_read.Awaited id) = refl
slot_awaits_is (slot_read.Success superblock) = refl
slot_awaits_is slot_read.Corruption = refl

-- a piece's read
piece_awaits : (p : Piece) (o : Option JournalInterval) (m : Map JournalInterval) → read_bound (piece_awaited p (optional o)) m ≡ bind_read (awaited_read p) o m
piece_awaits piece.Unread o m = refl
piece_awaits (piece.Reading id) none m = refl
piece_awaits (piece.Reading id) (some v) m = refl
piece_awaits piece.In o m = refl

abbrev awaited_id : code.Option AwaitedRead → Option ℕ
awaited_id (Some r) = some r.id
awaited_id None = none

piece_read_is : (p : Piece) (o : Option JournalInterval) (id : ℕ) (v : JournalInterval) → piece_awaited p (optional o) ≡ reading id v → awaited_read p ≡ some id
piece_read_is piece.Unread o id v e = ruin (cc)
piece_read_is (piece.Reading k) none id v e = ruin (cc)
piece_read_is (piece.Reading k) (some w) id v e = ap awaited_id e
piece_read_is piece.In o id v e = ruin (cc)

-- a commit's write, to the other slot
commit_awaits : (c : Commit) → write_in (commit_write c) ≡ new_write (write_of c) (new_of c)
commit_awaits commit.CommitNone = refl
commit_awaits (commit.CommitAdvanceLog id new) = refl
commit_awaits (commit.CommitAdvanceLocation id new) = refl

module _ (g : Geometry) (l : Lent) where
  superblock_reads_await : (m : Machine) → each_of id_set (slot_pair (awaited_by g m).superblockReads) ≡ awaited_superblock_reads (machine_of g l m)
  unfolding awaited_by superblocks_await other_awaits ready_awaits
  superblock_reads_await m =
      by_kind_is (λ m. each_of id_set (slot_pair (awaited_by g m).superblockReads) ≡ awaited_superblock_reads (machine_of g l m)) m
      (λ i. record { first = slot_awaits_is m.superblocks.first i; second = slot_awaits_is m.superblocks.second i })
      (λ i. record { first = ids_empty i; second = ids_empty i })
      (λ i. record { first = ids_empty i; second = ids_empty i })

  journal_reads_await : (m : Machine) → awaited_map (awaited_by g m).journalReads ≡ awaited_journal_reads g (machine_of g l m)
  unfolding awaited_by superblocks_await other_awaits ready_awaits pieces_awaited
  journal_reads_await m =
      by_kind_is (λ m. awaited_map (awaited_by g m).journalReads ≡ awaited_journal_reads g (machine_of g l m)) m
      refl
      (ap (read_bound (piece_awaited m.other.front (front_of g m.other.superblock))) (piece_awaits m.other.back (journal_back_interval_of_superblock g m.other.superblock) no_keys)
      ∙ piece_awaits m.other.front (journal_front_interval_of_superblock g m.other.superblock)
      (bind_read (awaited_read m.other.back) (journal_back_interval_of_superblock g m.other.superblock) no_keys))
      refl

  journal_writes_await : (m : Machine) → id_set (awaited_by g m).journalWrites ≡ awaited_journal_writes (machine_of g l m)
  unfolding awaited_by superblocks_await other_awaits ready_awaits
  journal_writes_await m =
      by_kind_is (λ m. id_set (awaited_by g m).journalWrites ≡ awaited_journal_writes (machine_of g l m)) m
      ids_empty
      ids_empty
      refl

  -- where `which` is 0 or 1
  commit_writes_await : (which : ℕ) (c : Commit) → which ≤ 1
      → each_of write_in (slot_pair (commit_writes (cond (eqb which 0) 1 0) c)) ≡ put (both none) (not (is_second which)) (new_write (write_of c) (new_of c))
  unfolding commit_writes put_slot
  commit_writes_await zero c h = λ i. record { first = none; second = commit_awaits c i }
  commit_writes_await (suc zero) c h = λ i. record { first = commit_awaits c i; second = none }
  commit_writes_await (suc (suc n)) c h = ruin (omega arith)

  superblock_writes_await : (m : Machine) → MachineMet g l m → each_of write_in (slot_pair (awaited_by g m).superblockWrites) ≡ awaited_superblock_writes (machine_of g l m)
  unfolding awaited_by superblocks_await other_awaits ready_awaits
  superblock_writes_await m =
      by_kind_is (λ m. MachineMet g l m → each_of write_in (slot_pair (awaited_by g m).superblockWrites) ≡ awaited_superblock_writes (machine_of g l m)) m
      (λ h. refl)
      (λ h. refl)
      (λ h. commit_writes_await m.ready.whichSuperblock m.ready.commit h.form.kind.which_in)

  -- the two journal reads differ
  reads_differ : (m : Machine) → MachineMet g l m → ReadsDiffer (awaited_by g m).journalReads
  unfolding awaited_by superblocks_await other_awaits ready_awaits pieces_awaited
  reads_differ m =
      by_kind_is (λ m. MachineMet g l m → ReadsDiffer (awaited_by g m).journalReads) m
      (λ h id v w p q. ruin (cc))
      (λ h id v w p q.
      h.meets.shape.reads_differ id
      (piece_read_is m.other.front (journal_front_interval_of_superblock g m.other.superblock) id v p)
      (piece_read_is m.other.back (journal_back_interval_of_superblock g m.other.superblock) id w q))
      (λ h id v w p q. ruin (cc))

-- What the disk holds

-- a write is known by its view
abbrev request_of : ℕ → Superblock → ReqWriteSuperblockId
request_of id s = record { id = id; req = record { superblock = s } }

write_by_view : (a b : code.Option SuperblockWrite) → write_in a ≡ write_in b → a ≡ b
write_by_view None None e = refl
write_by_view None (Some k) e = ruin (cc)
write_by_view (Some k) None e = ruin (cc)
write_by_view (Some k) (Some j) e =
    let q = some-injective (request_of k.id k.superblock) (request_of j.id j.superblock) e in
    λ i. Some (record { id = (q i).id; superblock = (q i).req.superblock })

writes_by_view : (a b : SuperblockWrites) → each_of write_in (slot_pair a) ≡ each_of write_in (slot_pair b) → a ≡ b
writes_by_view a b e =
    λ i.
    record {
      first = write_by_view a.first b.first (ap (λ (t : Two (Option ReqWriteSuperblockId)). t.first) e) i;
      second = write_by_view a.second b.second (ap (λ (t : Two (Option ReqWriteSuperblockId)). t.second) e) i;
    }

-- a slot's superblock, both ways
record SlotHolds (g : Geometry) (x : code.Option Superblock) : Type 0 where
  value : Superblock
  holds : x ≡ Some value
  wf : WFSuperblock g value

slot_facts : (g : Geometry) (x : code.Option Superblock) → slot_wf g x ≡ true → SlotHolds g x
slot_facts g (Some s) e = record { value = s; holds = refl; wf = superblock_facts g s e }
slot_facts g None e = false_true e

facts_slot : (g : Geometry) (x : code.Option Superblock) → SlotHolds g x → slot_wf g x ≡ true
facts_slot g x h = ap (slot_wf g) h.holds ∙ facts_superblock g h.value h.wf

module _ (g : Geometry) (blocks marks : List ℕ) (d : Disk) where
  slots_held : slots_wf g d.slots ≡ true → SlotHolds g d.slots.first × SlotHolds g d.slots.second
  unfolding slots_wf
  slots_held e = (
    slot_facts g d.slots.first (also_left _ _ e),
    slot_facts g d.slots.second (also_right _ _ e),
  )

  abbrev wf_of : SlotHolds g d.slots.first → SlotHolds g d.slots.second → WFDisk g (disk_of g blocks marks d)
  wf_of a b =
      record {
        first = record { value = a.value; holds = ap option_of a.holds; wf = a.wf };
        second = record { value = b.value; holds = ap option_of b.holds; wf = b.wf };
      }

  abbrev first_of : WFDisk g (disk_of g blocks marks d) → SlotHolds g d.slots.first
  first_of w = record { value = w.first.value; holds = option_same d.slots.first (Some w.first.value) w.first.holds; wf = w.first.wf }

  abbrev second_of : WFDisk g (disk_of g blocks marks d) → SlotHolds g d.slots.second
  second_of w = record { value = w.second.value; holds = option_same d.slots.second (Some w.second.value) w.second.holds; wf = w.second.wf }

  -- where both slots hold a superblock, the selected interval is theirs
  cleared : (a : SlotHolds g d.slots.first) (b : SlotHolds g d.slots.second)
      → writes_clear g d.slots d.journalWrites ≡ rows_clear g (selected_interval a.value b.value) d.journalWrites
  unfolding writes_clear
  cleared a b = λ i. clear_by g (a.holds i) (b.holds i) d.journalWrites

-- Question 2 of a system: of a yes the machine's own question is needed for `which`, of the way back the disk's too, for ids that differ
module _ (g : Geometry) (l : Lent) (blocks marks : List ℕ) (m : Machine) (d : Disk) (z : SizedDisk d) (h : MachineMet g l m) where
  abbrev a : Awaited
  a = awaited_by g m

  pub joined_met : joined_ok g m d ≡ true → Joined g (store_of g l blocks marks m d)
  unfolding joined_ok joined_by
  joined_met e =
      let e1 = also_right _ _ e in
      let e2 = also_right _ _ e1 in
      let e3 = also_right _ _ e2 in
      let e4 = also_right _ _ e3 in
      let e5 = also_right _ _ e4 in
      let e6 = also_right _ _ e5 in
      let held = slots_held g blocks marks d (also_left _ _ e) in
      record {
        wf = wf_of g blocks marks d held.0 held.1;
        superblock_reads_is = reads_facts a.superblockReads d.superblockReads (also_left _ _ e1) ∙ superblock_reads_await g l m;
        journal_reads_is = journal_reads_facts a.journalReads d.journalReads z.journal_reads_is (also_left _ _ e2) ∙ journal_reads_await g l m;
        superblock_writes = ap (λ (w : SuperblockWrites). each_of write_in (slot_pair w)) (writes_facts a.superblockWrites d.superblockWrites (also_left _ _ e3))
            ∙ superblock_writes_await g l m h;
        journal_writes_is = same_facts d.journalWrites z.journal_writes_is a.journalWrites (also_left _ _ e4) ∙ journal_writes_await g l m;
        writes_apart = apart_facts d.journalWrites (also_left _ _ e5);
        writes_clear_is = clear_facts d.journalWrites g (selected_interval held.0.value held.1.value) (sym (cleared g blocks marks d held.0 held.1) ∙ e6);
      }

  module _ (k : Met g blocks marks d z) where
    counted : Counted d.journalWrites.count d.journalWrites.count d.journalWrites.ids
    counted = counted_own d.journalWrites.count d.journalWrites.ids k.tables.journal_writes_is

    pub met_joined : Joined g (store_of g l blocks marks m d) → joined_ok g m d ≡ true
    unfolding joined_ok joined_by slots_wf
    met_joined j =
        let s1 = first_of g blocks marks d j.wf in
        let s2 = second_of g blocks marks d j.wf in
        also_both _ _ (also_both _ _ (facts_slot g d.slots.first s1) (facts_slot g d.slots.second s2))
        (also_both _ _ (facts_reads a.superblockReads d.superblockReads (j.superblock_reads_is ∙ sym (superblock_reads_await g l m)))
        (also_both _ _ (facts_journal_reads a.journalReads d.journalReads z.journal_reads_is (reads_differ g l m h) (j.journal_reads_is ∙ sym (journal_reads_await g l m)))
        (also_both _ _ (facts_writes a.superblockWrites d.superblockWrites
        (writes_by_view d.superblockWrites a.superblockWrites (j.superblock_writes ∙ sym (superblock_writes_await g l m h))))
        (also_both _ _ (facts_same d.journalWrites z.journal_writes_is a.journalWrites (j.journal_writes_is ∙ sym (journal_writes_await g l m)))
        (also_both _ _ (facts_apart d.journalWrites z.journal_writes_is d.journalWrites.count counted j.writes_apart)
        (cleared g blocks marks d s1 s2
        ∙ facts_clear d.journalWrites z.journal_writes_is d.journalWrites.count counted g (selected_interval s1.value s2.value) j.writes_clear_is))))))
