-- The machine's record: a kind beside the records of the three kinds, and the sync requests, which all kinds have. Its parts put in place of
-- others, and what a step answers.
use Rattle.std.specs.Prelude.{ℕ, cond, eqb, Ok, Err}
use Rattle.refusal.specs.declared.Refusal.{Refusal}
use Rattle.refusal.specs.Refusal.{refusal}
use Rattle.superblock.specs.declared.Superblock.{Superblock}
use Rattle.superblock.specs.declared.DiskOp.{DiskOp}
use Rattle.tables.specs.declared.SyncTable.{SyncTable}
use Rattle.tables.specs.SyncTable.{no_syncs}
use Rattle.memory.specs.declared.Limits.{Limits}
use Rattle.memory.specs.Limits.{store_limits}
use Rattle.loading.specs.declared.LoadingSuperblock.{LoadingSuperblock}
use Rattle.loading.specs.declared.LoadingOther.{LoadingOther}
use Rattle.loading.specs.declared.Piece.TheVariants as piece
use Rattle.loading.specs.Superblocks.{initial}
use Rattle.ready.specs.declared.Ready.{Ready}
use Rattle.ready.specs.State.{loaded}
use Rattle.machine.specs.declared.Kind.{Kind}
use Rattle.machine.specs.declared.Kind.TheVariants as kind
use Rattle.machine.specs.declared.Machine.{Machine}
use Rattle.machine.specs.declared.MachineStepped.{MachineStepped}

-- document 01's limits: sync requests, and what pending memory holds
abbrev pub most_sync_reqs : ℕ
most_sync_reqs = 32

abbrev pub limits_of : Machine → Limits
limits_of m = store_limits

-- one thing for each kind
abbrev pub by_kind {ℓ} : {A : Type ℓ} → Kind → A → A → A → A
by_kind kind.LoadingSuperblock a b c = a
by_kind kind.LoadingOther a b c = b
by_kind kind.Ready a b c = c

-- question 3 of a step that names a kind
abbrev pub ask_loading_superblock : Machine → ℕ
ask_loading_superblock m = by_kind {A = ℕ} m.kind 0 3 3

abbrev pub ask_loading_other : Machine → ℕ
ask_loading_other m = by_kind {A = ℕ} m.kind 3 0 3

abbrev pub ask_ready : Machine → ℕ
ask_ready m = by_kind {A = ℕ} m.kind 3 3 0

abbrev pub ask_kind : Kind → Machine → ℕ
ask_kind k m = by_kind {A = ℕ} k (ask_loading_superblock m) (ask_loading_other m) (ask_ready m)

-- m.(superblocks := x), and so for each part; a step into another kind sets the kind as well
abbrev pub with_superblocks : Machine → LoadingSuperblock → Machine
with_superblocks m x = record { kind = m.kind; superblocks = x; other = m.other; ready = m.ready; sync = m.sync }

abbrev pub with_other : Machine → LoadingOther → Machine
with_other m x = record { kind = m.kind; superblocks = m.superblocks; other = x; ready = m.ready; sync = m.sync }

abbrev pub with_ready : Machine → Ready → Machine
with_ready m x = record { kind = m.kind; superblocks = m.superblocks; other = m.other; ready = x; sync = m.sync }

abbrev pub with_sync : Machine → SyncTable → Machine
with_sync m x = record { kind = m.kind; superblocks = m.superblocks; other = m.other; ready = m.ready; sync = x }

abbrev pub to_other : Machine → LoadingOther → Machine
to_other m x = record { kind = kind.LoadingOther; superblocks = m.superblocks; other = x; ready = m.ready; sync = m.sync }

abbrev pub to_ready : Machine → Ready → Machine
to_ready m x = record { kind = kind.Ready; superblocks = m.superblocks; other = m.other; ready = x; sync = m.sync }

-- 000's Init. What the other kinds would hold is no part of it
abbrev pub no_superblock : Superblock
no_superblock = record { counter = 0; journalStart = 0; journalLen = 0; indirectionTableLoc = record { addr = 0; len = 0 } }

abbrev pub nothing_loaded : LoadingOther
nothing_loaded = record { superblock = no_superblock; whichSuperblock = 0; front = piece.Unread; back = piece.Unread }

unfoldable pub initial_machine : Machine
initial_machine =
    record {
      kind = kind.LoadingSuperblock;
      superblocks = initial;
      other = nothing_loaded;
      ready = loaded no_superblock 0 0;
      sync = no_syncs;
    }

-- one number decides: 0 is the next machine with its disk operation; another is its refusal, with the machine as it was
abbrev pub refused : Machine → Refusal → MachineStepped
refused m e = record { answer = Err e; machine = m }

abbrev pub accepted : DiskOp → Machine → MachineStepped
accepted op next = record { answer = Ok op; machine = next }

unfoldable pub answered : ℕ → DiskOp → Machine → Machine → MachineStepped
answered q op next m = cond (eqb q 0) (accepted op next) (refused m (refusal q))
