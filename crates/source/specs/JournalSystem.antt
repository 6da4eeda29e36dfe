-- Source 004, JournalSystem, up to document 01's cut: the machine with its disk, in the source's order and names. `DiskHasSuperblock1` and
-- `2` are one predicate over the slot. A function with `requires` takes its proof; a predicate that a function decides by is beside its test.
use Rattle.std.specs.Prelude.{ℕ, ◌-◌, Bool, true, false, cond, not, ◌≡◌, List, [], ◌++◌}
use Rattle.std.proofs.Common.{sym, subst}
use Rattle.std.proofs.Math.Option.{Option, none, some}
use Rattle.laws.specs.Choice.{also, split_eq}
use Rattle.layout.specs.declared.Geometry.{Geometry}
use Rattle.layout.specs.declared.Location.{Location}
use Rattle.layout.specs.Journal.{journal_pos_add}
use Rattle.interval.specs.declared.JournalInterval.{JournalInterval}
use Rattle.interval.specs.Interval.{interval}
use Rattle.interval.specs.Facts.{ValidJournalInterval}
use Rattle.superblock.specs.declared.Superblock.{Superblock}
use Rattle.superblock.specs.Superblock.{increment_superblock_counter, select_superblock, same_superblock}
use Rattle.superblock.specs.Laws.{WFSuperblock, selects_second, selects_first, selected_second_is, selected_first}
use Rattle.laws.specs.Sets.{Map, each, at}
use Rattle.codec.specs.Codec.{JournalEntry, Codec, Disk-HasJournal, disk_journal}
use Rattle.source.specs.JournalDisk as D
use Rattle.source.specs.JournalCache as M

-- AsyncSectorDiskModelVariables<M.Variables, D.Variables>
pub record Variables : Type 0 where
  pub machine : M.Variables
  pub disk : D.Variables

-- DiskHasSuperblock1, DiskHasSuperblock2; the value is Superblock1OfDisk, Superblock2OfDisk
pub record DiskHasSuperblockIn (g : Geometry) (disk : D.Variables) (which : Bool) : Type 0 where
  pub value : Superblock
  pub holds : at disk.superblocks which ≡ some value
  pub wf : WFSuperblock g value

pub record DiskHasSuperblock (g : Geometry) (disk : D.Variables) : Type 0 where
  pub first : DiskHasSuperblockIn g disk false
  pub second : DiskHasSuperblockIn g disk true

-- where one slot had no superblock the source would take the other's; DiskHasSuperblock rules that out
abbrev pub superblock_of_disk : (g : Geometry) (disk : D.Variables) → DiskHasSuperblock g disk → Superblock
superblock_of_disk g disk h = select_superblock h.first.value h.second.value

pub selected_wf : (g : Geometry) (superblock1 superblock2 : Superblock) → WFSuperblock g superblock1 → WFSuperblock g superblock2 → WFSuperblock g (select_superblock superblock1 superblock2)
selected_wf g superblock1 superblock2 p q =
    split_eq superblock2.counter (increment_superblock_counter superblock1.counter)
    (λ e. subst (WFSuperblock g) (sym (selected_second_is superblock1 superblock2 (selects_second superblock1 superblock2 e))) q)
    (λ n. subst (WFSuperblock g) (sym (selected_first superblock1 superblock2 (selects_first superblock1 superblock2 n))) p)

pub superblock_of_disk_wf : (g : Geometry) (disk : D.Variables) (h : DiskHasSuperblock g disk) → WFSuperblock g (superblock_of_disk g disk h)
superblock_of_disk_wf g disk h = selected_wf g h.first.value h.second.value h.first.wf h.second.wf

abbrev pub WFDisk : Geometry → D.Variables → Type 0
WFDisk g disk = DiskHasSuperblock g disk

-- the interval of the superblock that the disk's slots select
abbrev pub persistent_interval : (g : Geometry) (disk : D.Variables) → DiskHasSuperblock g disk → JournalInterval
persistent_interval g disk h = interval (superblock_of_disk g disk h).journalStart (superblock_of_disk g disk h).journalLen

pub record WFPersistentJournal (g : Geometry) (C : Codec) (s : Variables) : Type 0 where
  pub superblock : DiskHasSuperblock g s.disk
  pub valid : ValidJournalInterval g (persistent_interval g s.disk superblock)
  pub journal : Disk-HasJournal g C s.disk.journal (persistent_interval g s.disk superblock)

abbrev pub persistent_journal : {g : Geometry} {C : Codec} {s : Variables} → WFPersistentJournal g C s → List JournalEntry
persistent_journal h = disk_journal h.journal

-- by the machine's case: of a machine at Ready, or of the selected superblock
abbrev pub on_ready : {A : Type 0} → M.Variables → (M.ReadyVariables → A) → A → A
on_ready (M.Variables.Ready s) f a = f s
on_ready (M.Variables.LoadingOther s) f a = a
on_ready (M.Variables.LoadingSuperblock s) f a = a

abbrev pub frozen_start_pos : (g : Geometry) (s : Variables) → DiskHasSuperblock g s.disk → ℕ
frozen_start_pos g s h =
    on_ready s.machine
    (λ m. cond m.isFrozen (journal_pos_add g m.superblock.journalStart m.frozenJournalPosition) m.superblock.journalStart)
    (superblock_of_disk g s.disk h).journalStart

abbrev pub frozen_len : (g : Geometry) (s : Variables) → DiskHasSuperblock g s.disk → ℕ
frozen_len g s h =
    on_ready s.machine
    (λ m. cond m.isFrozen (m.writtenJournalLen - m.frozenJournalPosition) m.writtenJournalLen)
    (superblock_of_disk g s.disk h).journalLen

abbrev pub frozen_interval : (g : Geometry) (s : Variables) → DiskHasSuperblock g s.disk → JournalInterval
frozen_interval g s h = interval (frozen_start_pos g s h) (frozen_len g s h)

pub record WFFrozenJournal (g : Geometry) (C : Codec) (s : Variables) : Type 0 where
  pub superblock : DiskHasSuperblock g s.disk
  pub valid : ValidJournalInterval g (frozen_interval g s superblock)
  pub journal : Disk-HasJournal g C s.disk.journal (frozen_interval g s superblock)

abbrev pub frozen_journal : {g : Geometry} {C : Codec} {s : Variables} → WFFrozenJournal g C s → List JournalEntry
frozen_journal h = disk_journal h.journal

abbrev pub WFEphemeralJournal : Geometry → Codec → Variables → Type 0
WFEphemeralJournal g C s = WFPersistentJournal g C s

abbrev pub ephemeral_journal : (g : Geometry) (C : Codec) (s : Variables) → WFEphemeralJournal g C s → List JournalEntry
ephemeral_journal g C s h = on_ready s.machine (λ m. m.replay_journal) (persistent_journal h)

abbrev pub gamma_start_pos : (g : Geometry) (s : Variables) → DiskHasSuperblock g s.disk → ℕ
gamma_start_pos g s h = (superblock_of_disk g s.disk h).journalStart

pub record HasUpdateOccurredUnackedClauses (m : M.ReadyVariables) (disk : D.Variables) : Type 0 where
  pub new : Superblock
  pub new_is : m.new_superblock ≡ some new
  pub landed : at disk.superblocks (not m.whichSuperblock) ≡ m.new_superblock

abbrev pub HasUpdateOccurredUnacked : Variables → Type 0
HasUpdateOccurredUnacked s = M.IsReady s.machine (λ m. HasUpdateOccurredUnackedClauses m s.disk)

abbrev pub HasLocationUpdateOccurredUnacked : Variables → Type 0
HasLocationUpdateOccurredUnacked s = HasUpdateOccurredUnacked s × M.IsReady s.machine (λ m. m.commit_status ≡ M.CommitStatus.CommitAdvanceLocation)

-- the tests of the last two
abbrev pub holds_new : Option Superblock → Option Superblock → Bool
holds_new slot none = false
holds_new none (some new) = false
holds_new (some v) (some new) = same_superblock v new

abbrev pub is_advance_location : M.CommitStatus → Bool
is_advance_location M.CommitStatus.CommitNone = false
is_advance_location M.CommitStatus.CommitAdvanceLog = false
is_advance_location M.CommitStatus.CommitAdvanceLocation = true

abbrev pub has_update_occurred_unacked : Variables → Bool
has_update_occurred_unacked s = on_ready s.machine (λ m. holds_new (at s.disk.superblocks (not m.whichSuperblock)) m.new_superblock) false

abbrev pub has_location_update_occurred_unacked : Variables → Bool
has_location_update_occurred_unacked s = also (has_update_occurred_unacked s) (on_ready s.machine (λ m. is_advance_location m.commit_status) false)

abbrev pub gamma_len : (g : Geometry) (s : Variables) → DiskHasSuperblock g s.disk → ℕ
gamma_len g s h =
    on_ready s.machine
    (λ m. cond (has_location_update_occurred_unacked s) (m.writtenJournalLen - m.frozenJournalPosition) m.writtenJournalLen)
    (superblock_of_disk g s.disk h).journalLen

abbrev pub gamma_interval : (g : Geometry) (s : Variables) → DiskHasSuperblock g s.disk → JournalInterval
gamma_interval g s h = interval (gamma_start_pos g s h) (gamma_len g s h)

pub record WFGammaJournal (g : Geometry) (C : Codec) (s : Variables) : Type 0 where
  pub superblock : DiskHasSuperblock g s.disk
  pub valid : ValidJournalInterval g (gamma_interval g s superblock)
  pub journal : Disk-HasJournal g C s.disk.journal (gamma_interval g s superblock)

abbrev pub gamma_journal : (g : Geometry) (C : Codec) (s : Variables) → WFGammaJournal g C s → List JournalEntry
gamma_journal g C s h = on_ready s.machine (λ m. disk_journal h.journal ++ m.in_memory_journal_frozen) (disk_journal h.journal)

abbrev pub delta_journal : Variables → List JournalEntry
delta_journal s = on_ready s.machine (λ m. m.in_memory_journal) []

abbrev pub WFPersistentLoc : Geometry → Variables → Type 0
WFPersistentLoc g s = DiskHasSuperblock g s.disk

abbrev pub persistent_loc : (g : Geometry) (s : Variables) → WFPersistentLoc g s → Location
persistent_loc g s h = (superblock_of_disk g s.disk h).indirectionTableLoc

abbrev pub system_frozen_loc : Variables → Option Location
system_frozen_loc s = on_ready s.machine (λ m. m.frozenLoc) none

-- ThreeStateTypes.SyncReqStatus has the same three states
abbrev pub sync_req_state : Variables → M.SyncReqStatus → M.SyncReqStatus
sync_req_state s M.SyncReqStatus.State1 = M.SyncReqStatus.State1
sync_req_state s M.SyncReqStatus.State2 = cond (has_update_occurred_unacked s) M.SyncReqStatus.State1 M.SyncReqStatus.State2
sync_req_state s M.SyncReqStatus.State3 = M.SyncReqStatus.State3

abbrev pub sync_reqs : Variables → Map M.SyncReqStatus
sync_reqs s = each (sync_req_state s) (M.sync_reqs_of s.machine)

-- Init

pub record Init (g : Geometry) (s : Variables) (loc : Location) : Type 0 where
  pub machine : M.Init s.machine
  pub disk : D.Init g s.disk
  pub wf : WFDisk g s.disk
  pub some1 : M.Some (at s.disk.superblocks false)
  pub some2 : M.Some (at s.disk.superblocks true)
  pub start_is : (superblock_of_disk g s.disk wf).journalStart ≡ 0
  pub len_is : (superblock_of_disk g s.disk wf).journalLen ≡ 0
  pub loc_is : (superblock_of_disk g s.disk wf).indirectionTableLoc ≡ loc

-- Next

pub data Step : Type 0 where
  MachineStep : (dop : D.DiskOp) (machineStep : M.Step) → Step
  DiskInternalStep : (step : D.InternalStep) → Step
  CrashStep : Step

pub record Machine (g : Geometry) (C : Codec) (s s' : Variables) (dop : D.DiskOp) (machineStep : M.Step) : Type 0 where
  pub machine : M.NextStep g C s.machine s'.machine dop machineStep
  pub disk : D.Next g s.disk s'.disk dop

pub record DiskInternal (s s' : Variables) (step : D.InternalStep) : Type 0 where
  pub machine : s.machine ≡ s'.machine
  pub disk : D.NextInternalStep s.disk s'.disk step

pub record Crash (g : Geometry) (s s' : Variables) : Type 0 where
  pub machine : M.Init s'.machine
  pub disk : D.Crash g s.disk s'.disk

abbrev pub NextStep : Geometry → Codec → Variables → Variables → Step → Type 0
NextStep g C s s' (MachineStep dop machineStep) = Machine g C s s' dop machineStep
NextStep g C s s' (DiskInternalStep step) = DiskInternal s s' step
NextStep g C s s' CrashStep = Crash g s s'

abbrev pub Next : Geometry → Codec → Variables → Variables → Type 0
Next g C s s' = (step : Step) × NextStep g C s s' step
