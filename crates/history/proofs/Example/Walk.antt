-- A walk through calls from the example's first disk: each call is taken, within the limits, and leads to a state that was reached; or it is
-- refused, and then no step of it is allowed.
use Rattle.std.specs.Prelude.{◌≤◌, Bool, true, false, refl, List, [], ◌∷◌, length}
use Rattle.std.proofs.Common.{arith}
use Rattle.codec.specs.Codec.{EntriesFit}
use Rattle.codec.specs.Format.{format}
use Rattle.source.specs.JournalSystem as Y
use Rattle.source.specs.Limits.{limits, MachineCounts, DiskCounts}
use Rattle.source.specs.Meets.{SystemMeets}
use Rattle.source.specs.Departures.{Event}
use Rattle.source.specs.Within.{EventArguments}
use Rattle.source.proofs.Laws.Format.{limits_fit}
use Rattle.history.specs.Ledger.{Call, write_journal, journal_written, commit_log, commit_location, superblock_written, read_journal, journal_read, read_superblock, superblock_read, finish_superblocks, finish_other, freeze, receive, add, replay, push_sync, pop_sync, no_op, ask_again, land, crash, nonsense, Ledger, tell}
use Rattle.history.specs.Statement.{Tied, tied_write, tied_written, unawaited_written, tied_log, tied_location, tied_committed, unawaited_committed, tied_page, tied_paged, tied_damaged, unawaited_paged, unawaited_damaged, tied_read, tied_superblock, tied_corrupt, unawaited_superblock, unawaited_corrupt, tied_finish_superblocks, tied_finish_other, tied_freeze, tied_receive, tied_add, tied_replay, tied_push, tied_pop, tied_no_op, tied_again, tied_land, tied_crash, Takes, Trace}
use Rattle.history.proofs.Whole.First.{first_parity}
use Rattle.history.proofs.Reach.Reachable.{Reached, reached_step}
use Rattle.history.proofs.Example.Setting.{g, g_valid, table1, first, init}

-- the entries that a call brings are few, and each fits; a crash, whose picture is no part of the call, stands at the day's end
abbrev pub Brings : Call → Type 0
Brings (add es) = (length es ≤ 16) × EntriesFit 255 es
Brings (replay es) = (length es ≤ 16) × EntriesFit 255 es
Brings crash = ⊥
Brings (write_journal id1 id2) = Unit {0}
Brings (journal_written id) = Unit {0}
Brings (commit_log id) = Unit {0}
Brings (commit_location id) = Unit {0}
Brings (superblock_written id) = Unit {0}
Brings (read_journal which id) = Unit {0}
Brings (journal_read id whole) = Unit {0}
Brings (read_superblock which id) = Unit {0}
Brings (superblock_read which id whole) = Unit {0}
Brings finish_superblocks = Unit {0}
Brings finish_other = Unit {0}
Brings freeze = Unit {0}
Brings (receive loc) = Unit {0}
Brings (push_sync id) = Unit {0}
Brings (pop_sync id) = Unit {0}
Brings no_op = Unit {0}
Brings (ask_again which) = Unit {0}
Brings (land which) = Unit {0}
Brings nonsense = Unit {0}

in_range : (x : Call) (e : Event) → Tied x e → Brings x → EventArguments g limits e
in_range x e tied_write b = record { few = omega arith; fit = tt }
in_range x e tied_written b = record { few = omega arith; fit = tt }
in_range x e unawaited_written b = record { few = omega arith; fit = tt }
in_range x e tied_log b = record { few = omega arith; fit = tt }
in_range x e tied_location b = record { few = omega arith; fit = tt }
in_range x e tied_committed b = record { few = omega arith; fit = tt }
in_range x e unawaited_committed b = record { few = omega arith; fit = tt }
in_range x e tied_page b = record { few = omega arith; fit = tt }
in_range x e tied_paged b = record { few = omega arith; fit = tt }
in_range x e tied_damaged b = tt
in_range x e unawaited_paged b = record { few = omega arith; fit = tt }
in_range x e unawaited_damaged b = record { few = omega arith; fit = tt }
in_range x e tied_read b = record { few = omega arith; fit = tt }
in_range x e tied_superblock b = record { few = omega arith; fit = tt }
in_range x e tied_corrupt b = record { few = omega arith; fit = tt }
in_range x e unawaited_superblock b = record { few = omega arith; fit = tt }
in_range x e unawaited_corrupt b = record { few = omega arith; fit = tt }
in_range x e tied_finish_superblocks b = record { few = omega arith; fit = tt }
in_range x e tied_finish_other b = record { few = omega arith; fit = tt }
in_range x e tied_freeze b = record { few = omega arith; fit = tt }
in_range x e tied_receive b = record { few = omega arith; fit = tt }
in_range x e tied_add b = record { few = b.0; fit = b.1 }
in_range x e tied_replay b = record { few = b.0; fit = b.1 }
in_range x e tied_push b = record { few = omega arith; fit = tt }
in_range x e tied_pop b = record { few = omega arith; fit = tt }
in_range x e tied_no_op b = record { few = omega arith; fit = tt }
in_range x e tied_again b = tt
in_range x e tied_land b = tt
in_range x e tied_crash b = absurd b

-- a state that was reached, by whatever ledger
abbrev pub Somewhere : Y.Variables → Type 0
Somewhere s = (l : Ledger) × Reached g format limits (first_parity g format first table1 init) s l

-- a call that is taken, and where it leads
abbrev pub Step : Y.Variables → Call → Y.Variables → Type 0
Step s x t = Takes g format limits s t x × Somewhere t

pub onward : {s t : Y.Variables} (x : Call) → Somewhere s → (SystemMeets g limits s → Takes g format limits s t x) → Brings x → MachineCounts limits t.machine → DiskCounts limits t.disk → Step s x t
onward {s = s} {t = t} x r f b machine disk =
    let k = f r.1.meets in (
      k,
      (
        tell g format x r.0,
        reached_step g format limits limits_fit (first_parity g format first table1 init) s t r.0 x r.1 k
            (record { geometry = g_valid; arguments = in_range x k.event k.tied b; machine = machine; disk = disk }),
      ),
    )

-- a call that is not allowed
abbrev pub Refused : Y.Variables → Call → Type 0
Refused s x = (t : Y.Variables) → Takes g format limits s t x → ⊥

-- calls with their answers
pub data Walk : Y.Variables → List Call → List Bool → Y.Variables → Type 0 where
  there : {s : Y.Variables} → Walk s [] [] s
  ◌then◌ : {s u t : Y.Variables} {x : Call} {xs : List Call} {bs : List Bool} → Step s x u → Walk u xs bs t → Walk s (x ∷ xs) (true ∷ bs) t
  ◌refused-then◌ : {s t : Y.Variables} {x : Call} {xs : List Call} {bs : List Bool} → Refused s x → Walk s xs bs t → Walk s (x ∷ xs) (false ∷ bs) t

infixr 20 ◌then◌
infixr 20 ◌refused-then◌
pub walked : {s t : Y.Variables} {xs : List Call} {bs : List Bool} → Walk s xs bs t → Trace g format limits s xs bs t
walked there = refl
walked (◌then◌ {u = u} k w) = (u, k.0, walked w)
walked (◌refused-then◌ {s = s} n w) = (s, refl, walked w)
