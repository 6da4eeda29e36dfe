-- One step over all calls: questions 1 and 2 once, then the step. What it answers, and the lent memory after it.
use Rattle.std.specs.Prelude.{ℕ, List}
use Rattle.laws.specs.Choice.{and_then, unless}
use Rattle.layout.specs.declared.Geometry.{Geometry}
use Rattle.superblock.specs.declared.DiskOp.TheVariants as op
use Rattle.journal.specs.Memory.{ask_journal}
use Rattle.ready.specs.declared.Bodies.{Bodies}
use Rattle.machine.specs.Questions.{bodies_of}
use Rattle.machine.specs.Loading.{ask_loaded}
use Rattle.machine.specs.Working.{given_of, ask_advance_step}
use Rattle.store.specs.declared.Store.{Store}
use Rattle.store.specs.Store.{StoreStepped}
use Rattle.store.specs.Store.{accepted}
use Rattle.store.specs.Lent.{Lent, ask_store}
use Rattle.store.specs.Steps as one
use Rattle.store.specs.Whole.{asked}
use Rattle.calls.specs.declared.calls.Step.{Step}
use Rattle.calls.specs.declared.calls.Step.TheVariants as step
use Rattle.calls.specs.Given.{Given}

-- after questions 1 and 2: the answer; b has the bytes of the pending entries
unfoldable pub step_answer_with : Geometry → Lent → Given → Store → Step → Bodies → StoreStepped
step_answer_with g l v s (step.WriteBackJournalReq id1 id2) b = one.write_journal g s id1 id2 b
step_answer_with g l v s (step.WriteBackJournalResp id) b = one.journal_written g s id
step_answer_with g l v s (step.AdvanceLog id) b = one.commit_log g s id
step_answer_with g l v s (step.AdvanceLocation id) b = one.commit_location g s id
step_answer_with g l v s (step.WriteBackSuperblockResp id) b = one.superblock_written g s id
step_answer_with g l v s (step.PageInJournalReq which id) b = one.read_journal g s which id
step_answer_with g l v s (step.PageInJournalResp id whole) b = one.journal_read s id whole l.marks
step_answer_with g l v s (step.PageInSuperblockReq which id) b = one.read_superblock g s which id
step_answer_with g l v s (step.PageInSuperblockResp which id whole) b = one.superblock_read g s which id whole
step_answer_with g l v s step.FinishLoadingSuperblockPhase b = one.finish_superblocks g s
step_answer_with g l v s step.FinishLoadingOtherPhase b = one.finish_other g s l.pieces l.rbytes l.rlens
step_answer_with g l v s step.Freeze b = one.freeze g s
step_answer_with g l v s (step.ReceiveFrozenLoc loc) b = one.receive g s loc
step_answer_with g l v s (step.Advance entries) b = one.add g s b v.brought v.sizes entries
step_answer_with g l v s (step.Replay entries) b = one.replay g s l.rbytes l.rlens v.brought v.sizes entries
step_answer_with g l v s (step.PushSyncReq id) b = one.push_sync g s id
step_answer_with g l v s (step.PopSyncReq id) b = one.pop_sync g s id
step_answer_with g l v s step.NoOp b = one.no_op g s
step_answer_with g l v s (step.AskAgain which) b = one.ask_again g s which
step_answer_with g l v s (step.Land which) b = one.land s which
step_answer_with g l v s step.Crash b = accepted op.NoDiskOp (one.crashed s)
step_answer_with g l v s step.CrashInPlace b = accepted op.NoDiskOp (one.crashed s)

-- and the lent memory
unfoldable pub step_lent_with : Geometry → Lent → Given → Store → Step → Bodies → Lent
step_lent_with g l v s (step.WriteBackJournalReq id1 id2) b = one.written_lent g l s (one.ask_write_journal g s id1 id2 b) b
step_lent_with g l v s (step.WriteBackJournalResp id) b = l
step_lent_with g l v s (step.AdvanceLog id) b = l
step_lent_with g l v s (step.AdvanceLocation id) b = l
step_lent_with g l v s (step.WriteBackSuperblockResp id) b = l
step_lent_with g l v s (step.PageInJournalReq which id) b = l
step_lent_with g l v s (step.PageInJournalResp id whole) b = one.read_lent g l s id whole
step_lent_with g l v s (step.PageInSuperblockReq which id) b = l
step_lent_with g l v s (step.PageInSuperblockResp which id whole) b = l
step_lent_with g l v s step.FinishLoadingSuperblockPhase b = l
step_lent_with g l v s step.FinishLoadingOtherPhase b = one.finished_lent l s (ask_loaded g s.machine l.pieces l.rbytes l.rlens)
step_lent_with g l v s step.Freeze b = l
step_lent_with g l v s (step.ReceiveFrozenLoc loc) b = l
step_lent_with g l v s (step.Advance entries) b = one.added_lent l s v.brought v.sizes entries (ask_advance_step s.machine b (given_of v.brought v.sizes entries)) b
step_lent_with g l v s (step.Replay entries) b = l
step_lent_with g l v s (step.PushSyncReq id) b = l
step_lent_with g l v s (step.PopSyncReq id) b = l
step_lent_with g l v s step.NoOp b = l
step_lent_with g l v s (step.AskAgain which) b = l
step_lent_with g l v s (step.Land which) b = l
step_lent_with g l v s step.Crash b = one.crashed_lent l s v.picture v.pictured
step_lent_with g l v s step.CrashInPlace b = l

-- with the bytes of the pending entries as questions 1 and 2 found them
abbrev pub step_answer : Geometry → Lent → Given → Store → Step → StoreStepped
step_answer g l v s x = step_answer_with g l v s x (bodies_of l.lens s.machine)

abbrev pub step_lent : Geometry → Lent → Given → Store → Step → Lent
step_lent g l v s x = step_lent_with g l v s x (bodies_of l.lens s.machine)

-- question 1 of what a step alone brings: a crash's picture
unfoldable pub ask_picture : Geometry → (picture pictured : List ℕ) → Step → ℕ
ask_picture g picture pictured step.Crash = ask_journal g picture pictured
ask_picture g picture pictured (step.WriteBackJournalReq id1 id2) = 0
ask_picture g picture pictured (step.WriteBackJournalResp id) = 0
ask_picture g picture pictured (step.AdvanceLog id) = 0
ask_picture g picture pictured (step.AdvanceLocation id) = 0
ask_picture g picture pictured (step.WriteBackSuperblockResp id) = 0
ask_picture g picture pictured (step.PageInJournalReq which id) = 0
ask_picture g picture pictured (step.PageInJournalResp id whole) = 0
ask_picture g picture pictured (step.PageInSuperblockReq which id) = 0
ask_picture g picture pictured (step.PageInSuperblockResp which id whole) = 0
ask_picture g picture pictured step.FinishLoadingSuperblockPhase = 0
ask_picture g picture pictured step.FinishLoadingOtherPhase = 0
ask_picture g picture pictured step.Freeze = 0
ask_picture g picture pictured (step.ReceiveFrozenLoc loc) = 0
ask_picture g picture pictured (step.Advance entries) = 0
ask_picture g picture pictured (step.Replay entries) = 0
ask_picture g picture pictured (step.PushSyncReq id) = 0
ask_picture g picture pictured (step.PopSyncReq id) = 0
ask_picture g picture pictured step.NoOp = 0
ask_picture g picture pictured (step.AskAgain which) = 0
ask_picture g picture pictured (step.Land which) = 0
ask_picture g picture pictured step.CrashInPlace = 0

-- whole
unfoldable pub ask_step : Geometry → Lent → Given → Store → Step → ℕ
ask_step g l v s x = and_then (ask_picture g v.picture v.pictured x) (ask_store g l s)

unfoldable pub stepped : Geometry → Lent → Given → Store → Step → StoreStepped
stepped g l v s x = asked (ask_step g l v s x) (step_answer g l v s x) s

unfoldable pub stepped_lent : Geometry → Lent → Given → Store → Step → Lent
stepped_lent g l v s x = unless (ask_step g l v s x) l (step_lent g l v s x)
