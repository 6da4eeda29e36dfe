-- The record of a disk, of the relations, for every N and T: it is what the ledger has kept, and what a load of the disk comes to. In each statement l is
-- lent to the record, and question 1 of it is answered yes.
use Rattle.std.specs.Prelude.{ℕ, Bool, true, ◌≡◌, refl, List, length}
use Rattle.std.proofs.Common.{ap, subst}
use Rattle.std.proofs.Math.Option.{Option}
use Rattle.laws.specs.Bytes.{Bytes}
use Rattle.laws.specs.Cut.{flat}
use Rattle.laws.specs.Sets.{Two}
use Rattle.layout.specs.declared.Geometry.{Geometry}
use Rattle.layout.specs.declared.Location.{Location}
use Rattle.interval.specs.Journal.{JournalBlock, cyclic_slice, full_range}
use Rattle.superblock.specs.declared.Superblock.{Superblock}
use Rattle.codec.specs.Codec.{Sized}
use Rattle.codec.specs.Format.{format}
use Rattle.source.specs.JournalCache as M
use Rattle.source.specs.JournalCache.{selected_second}
use Rattle.source.specs.JournalSystem as Y
use Rattle.source.specs.JournalSystem.{superblock_of_disk}
use Rattle.source.specs.Limits.{limits}
use Rattle.history.specs.Ledger.{Call, Ledger, begin, books, shown}
use Rattle.history.specs.Statement.{Trace, ready_by, slot_by}
use Rattle.history.specs.Earlier.{TraceEver}
use Rattle.history.proofs.Journal.Slots.{slot_parity}
use Rattle.history.proofs.Loads.Superblocks.{resting}
use Rattle.history.proofs.Simulation.Relation.{super_of, Sim}
use Rattle.history.proofs.Whole.Ever.{past_sim}
use Rattle.history.proofs.Whole.First.{first_parity, init_sim}
use Rattle.history.proofs.Whole.Lists.{sim_run}
use Rattle.image.specs.Image.{Lent, selected, interval_of, ask_lent, chosen, unmarked, ask_record}
use Rattle.image.specs.Asked.{image_asked}
use Rattle.records.specs.Pictures.{Pictures, OnlyOfLoad, RecordIs, Brought}
use Rattle.records.specs.Proofs.Loadable.{Loadable, kept_loadable, loadable_record, loadable_one}
use Rattle.records.specs.Proofs.Loads.{any_load}
use Rattle.records.specs.Proofs.Brings.{brings}

-- what can be loaded is the record
pub loadable_is : (g : Geometry) (disk : List ℕ) (l : Lent) → ask_lent g disk l ≡ 0 → (s : Y.Variables) → Pictures g disk s.disk → (r : M.ReadyVariables)
    → Loadable g s.disk.superblocks s.disk.journal r.whichSuperblock r.superblock r.replay_journal → RecordIs g disk (unmarked g disk l) l r
loadable_is g disk l asked s pic r z =
    loadable_record g disk (image_asked g (length disk) (length l.pieces) (length l.rbytes) (length l.rlens) asked).disk_size s.disk pic r.whichSuperblock r.superblock r.replay_journal z
    l (unmarked g disk l) (ap (chosen g disk) asked) r refl refl refl

-- what a ledger keeps can be loaded, as the machine that shows it
module _ (g : Geometry) (first : Y.Variables) (loc : Location) (i : Y.Init g first loc) where
  abbrev pub kept_by : Ledger → M.ReadyVariables
  kept_by l = let v = shown format l in ready_by v (slot_by g first loc i v.counter)

  pub sim_loadable : (s : Y.Variables) (l : Ledger) → Sim g format (first_parity g format first loc i) s.machine s.disk l
      → Loadable g s.disk.superblocks s.disk.journal (kept_by l).whichSuperblock (kept_by l).superblock (kept_by l).replay_journal
  sim_loadable s l z =
      subst (λ (w : Bool). Loadable g s.disk.superblocks s.disk.journal w (super_of format l.kept) (flat l.kept.ranges)) slot_is
      (kept_loadable g (first_parity g format first loc i) s.disk l.kept z.slot z.disk)
    where
      slot_is : z.slot ≡ slot_by g first loc i l.kept.counter
      slot_is =
          slot_parity l.kept.counter (superblock_of_disk g first.disk i.wf).counter z.slot (selected_second i.wf.first.value i.wf.second.value)
          z.disk.parity_is

-- At every time of a history from a first disk that meets `Init`, with writes in flight and before any crash too: the record of the bytes that picture the
-- disk is what the ledger has kept then, in the slot that goes with the counter.
pub record_tells : (g : Geometry) (disk : List ℕ) (l : Lent) → ask_lent g disk l ≡ 0
    → (first : Y.Variables) (loc : Location) (i : Y.Init g first loc) (calls : List Call) (answers : List Bool) (end : Y.Variables)
    → Trace g format limits first calls answers end → Pictures g disk end.disk
    → RecordIs g disk (unmarked g disk l) l (kept_by g first loc i (books g format (begin (superblock_of_disk g first.disk i.wf)) calls answers))
record_tells g disk l asked first loc i calls answers end h pic =
    loadable_is g disk l asked end pic _
    (sim_loadable g first loc i end _
    (sim_run g format limits (first_parity g format first loc i) first end (begin (superblock_of_disk g first.disk i.wf)) calls answers (init_sim g format first loc i) h))

-- so too where earlier releases took some of the calls, adds of entries of zeros only among them
pub earlier_record_tells : (g : Geometry) (disk : List ℕ) (l : Lent) → ask_lent g disk l ≡ 0
    → (first : Y.Variables) (loc : Location) (i : Y.Init g first loc) (calls : List Call) (answers : List Bool) (end : Y.Variables)
    → TraceEver g format limits first calls answers end → Pictures g disk end.disk
    → RecordIs g disk (unmarked g disk l) l (kept_by g first loc i (books g format (begin (superblock_of_disk g first.disk i.wf)) calls answers))
earlier_record_tells g disk l asked first loc i calls answers end h pic =
    loadable_is g disk l asked end pic _
    (sim_loadable g first loc i end _ (past_sim g format limits first loc i (record { calls = calls; answers = answers; left = end; ever = h })))

-- Whatever a load brings to Ready, from any disk, whether a history led to it or not: the record of the bytes that picture the disk is what the machine shows.
pub load_records : (g : Geometry) (disk : List ℕ) (l : Lent) → ask_lent g disk l ≡ 0
    → (s t : Y.Variables) (xs : List Call) (bs : List Bool) (r : M.ReadyVariables) → s.machine ≡ M.Variables.LoadingSuperblock M.initial → Pictures g disk s.disk
    → Trace g format limits s xs bs t → OnlyOfLoad xs bs → t.machine ≡ M.Variables.Ready r → RecordIs g disk (unmarked g disk l) l r
load_records g disk l asked s t xs bs r e pic h only q = loadable_is g disk l asked s pic r (any_load g s t xs bs r e only h q)

-- So what such a load of a disk shows to which a history from `Init` led is what the ledger has kept, with damaged answers, ask again and sync requests in the load too.
pub load_tells : (g : Geometry) (first : Y.Variables) (loc : Location) (i : Y.Init g first loc) (calls : List Call) (answers : List Bool) (s : Y.Variables) → Trace g format limits first calls answers s
    → s.machine ≡ M.Variables.LoadingSuperblock M.initial
    → (t : Y.Variables) (xs : List Call) (bs : List Bool) (r : M.ReadyVariables) → Trace g format limits s xs bs t → OnlyOfLoad xs bs → t.machine ≡ M.Variables.Ready r
    → let k = kept_by g first loc i (books g format (begin (superblock_of_disk g first.disk i.wf)) calls answers) in
    (r.superblock ≡ k.superblock) × (r.whichSuperblock ≡ k.whichSuperblock) × (r.replay_journal ≡ k.replay_journal)
load_tells g first loc i calls answers s h e t xs bs r load only q =
    loadable_one g s.disk.superblocks s.disk.journal _ _ _ _ _ _ (any_load g s t xs bs r e only load q)
    (sim_loadable g first loc i s _
    (sim_run g format limits (first_parity g format first loc i) first s (begin (superblock_of_disk g first.disk i.wf)) calls answers (init_sim g format first loc i) h))

-- And where the record is held, on a disk at rest whose blocks in the selected interval can be read, a load brings it. (The disk's bytes are below 256, its
-- blocks have 4,096 bytes each.)
pub record_brings : (g : Geometry) (disk : List ℕ) (l : Lent) (slots : Two (Option Superblock)) (j : List (Option JournalBlock)) → Bytes disk → Pictures g disk (resting slots j)
    → length j ≡ g.blocks → Sized j → full_range (cyclic_slice g j (interval_of (selected disk))) ≡ true → (ask_record g disk (unmarked g disk l)).number ≡ 0
    → Brought g disk (unmarked g disk l) l slots j
record_brings g disk l slots j bytes pic size sized full held = brings g disk l slots j pic size full bytes held sized
