-- The store's steps whole, as their promises cite them, in the order of 000's Step; then ask again, landings and crashes: what each call answers,
-- and the lent memory after it. Questions 1 and 2 come first, of all that a call is handed, then the step's own, the machine's before the disk's.
use Rattle.std.specs.declared.option.Option as code
use Rattle.std.specs.Prelude.{ℕ, Bool, cond, List, eqb}
use Rattle.laws.specs.Choice.{and_then, unless}
use Rattle.refusal.specs.Refusal.{refusal}
use Rattle.layout.specs.declared.Geometry.{Geometry}
use Rattle.layout.specs.declared.Location.{Location}
use Rattle.superblock.specs.declared.DiskOp.TheVariants as op
use Rattle.journal.specs.Memory.{ask_journal}
use Rattle.ready.specs.declared.Bodies.{Bodies}
use Rattle.machine.specs.Questions.{bodies_of}
use Rattle.machine.specs.Loading.{ask_loaded}
use Rattle.machine.specs.Working.{given_of, ask_advance_step}
use Rattle.store.specs.declared.Store.{Store}
use Rattle.store.specs.Store.{StoreStepped}
use Rattle.store.specs.Store.{refused, accepted}
use Rattle.store.specs.Lent.{Lent, ask_store}
use Rattle.store.specs.Steps as one

-- q is what is asked first: 0 is what the step then answers, another is its refusal, with the store as it was
unfoldable pub asked : ℕ → StoreStepped → Store → StoreStepped
asked q r s = cond (eqb q 0) r (refused s (refusal q))

-- the bytes of the pending entries, as questions 1 and 2 find them
abbrev pub bodies : Lent → Store → Bodies
bodies l s = bodies_of l.lens s.machine

-- WriteBackJournalReq
abbrev pub write_back_journal_req : Geometry → Lent → Store → ℕ → code.Option ℕ → StoreStepped
write_back_journal_req g l s id1 id2 = asked (ask_store g l s) (one.write_journal g s id1 id2 (bodies l s)) s

abbrev pub write_back_journal_req_lent : Geometry → Lent → Store → ℕ → code.Option ℕ → Lent
write_back_journal_req_lent g l s id1 id2 = unless (ask_store g l s) l (one.written_lent g l s (one.ask_write_journal g s id1 id2 (bodies l s)) (bodies l s))

-- WriteBackJournalResp
abbrev pub write_back_journal_resp : Geometry → Lent → Store → ℕ → StoreStepped
write_back_journal_resp g l s id = asked (ask_store g l s) (one.journal_written g s id) s

-- WriteBackSuperblockReq_AdvanceLog, WriteBackSuperblockReq_AdvanceLocation
abbrev pub advance_log : Geometry → Lent → Store → ℕ → StoreStepped
advance_log g l s id = asked (ask_store g l s) (one.commit_log g s id) s

abbrev pub advance_location : Geometry → Lent → Store → ℕ → StoreStepped
advance_location g l s id = asked (ask_store g l s) (one.commit_location g s id) s

-- WriteBackSuperblockResp
abbrev pub write_back_superblock_resp : Geometry → Lent → Store → ℕ → StoreStepped
write_back_superblock_resp g l s id = asked (ask_store g l s) (one.superblock_written g s id) s

-- PageInJournalReq
abbrev pub page_in_journal_req : Geometry → Lent → Store → (which id : ℕ) → StoreStepped
page_in_journal_req g l s which id = asked (ask_store g l s) (one.read_journal g s which id) s

-- PageInJournalResp
abbrev pub page_in_journal_resp : Geometry → Lent → Store → ℕ → Bool → StoreStepped
page_in_journal_resp g l s id whole = asked (ask_store g l s) (one.journal_read s id whole l.marks) s

abbrev pub page_in_journal_resp_lent : Geometry → Lent → Store → ℕ → Bool → Lent
page_in_journal_resp_lent g l s id whole = unless (ask_store g l s) l (one.read_lent g l s id whole)

-- PageInSuperblockReq
abbrev pub page_in_superblock_req : Geometry → Lent → Store → (which id : ℕ) → StoreStepped
page_in_superblock_req g l s which id = asked (ask_store g l s) (one.read_superblock g s which id) s

-- PageInSuperblockResp
abbrev pub page_in_superblock_resp : Geometry → Lent → Store → (which id : ℕ) → Bool → StoreStepped
page_in_superblock_resp g l s which id whole = asked (ask_store g l s) (one.superblock_read g s which id whole) s

-- FinishLoadingSuperblockPhase
abbrev pub finish_loading_superblock_phase : Geometry → Lent → Store → StoreStepped
finish_loading_superblock_phase g l s = asked (ask_store g l s) (one.finish_superblocks g s) s

-- FinishLoadingOtherPhase
abbrev pub finish_loading_other_phase : Geometry → Lent → Store → StoreStepped
finish_loading_other_phase g l s = asked (ask_store g l s) (one.finish_other g s l.pieces l.rbytes l.rlens) s

abbrev pub finish_loading_other_phase_lent : Geometry → Lent → Store → Lent
finish_loading_other_phase_lent g l s = unless (ask_store g l s) l (one.finished_lent l s (ask_loaded g s.machine l.pieces l.rbytes l.rlens))

-- Freeze
abbrev pub freeze : Geometry → Lent → Store → StoreStepped
freeze g l s = asked (ask_store g l s) (one.freeze g s) s

-- ReceiveFrozenLoc
abbrev pub receive_frozen_loc : Geometry → Lent → Store → Location → StoreStepped
receive_frozen_loc g l s loc = asked (ask_store g l s) (one.receive g s loc) s

-- Advance: the first k entries of what the caller brings
abbrev pub advance : Geometry → Lent → Store → (brought sizes : List ℕ) → ℕ → StoreStepped
advance g l s brought sizes k = asked (ask_store g l s) (one.add g s (bodies l s) brought sizes k) s

abbrev pub advance_lent : Geometry → Lent → Store → (brought sizes : List ℕ) → ℕ → Lent
advance_lent g l s brought sizes k =
    unless (ask_store g l s) l
    (one.added_lent l s brought sizes k (ask_advance_step s.machine (bodies l s) (given_of brought sizes k)) (bodies l s))

-- Replay
abbrev pub replay : Geometry → Lent → Store → (brought sizes : List ℕ) → ℕ → StoreStepped
replay g l s brought sizes k = asked (ask_store g l s) (one.replay g s l.rbytes l.rlens brought sizes k) s

-- PushSyncReq, PopSyncReq
abbrev pub push_sync_req : Geometry → Lent → Store → ℕ → StoreStepped
push_sync_req g l s id = asked (ask_store g l s) (one.push_sync g s id) s

abbrev pub pop_sync_req : Geometry → Lent → Store → ℕ → StoreStepped
pop_sync_req g l s id = asked (ask_store g l s) (one.pop_sync g s id) s

-- NoOp
abbrev pub no_op : Geometry → Lent → Store → StoreStepped
no_op g l s = asked (ask_store g l s) (one.no_op g s) s

-- ask again
abbrev pub ask_again : Geometry → Lent → Store → ℕ → StoreStepped
ask_again g l s which = asked (ask_store g l s) (one.ask_again g s which) s

-- a landing
abbrev pub land : Geometry → Lent → Store → ℕ → StoreStepped
land g l s which = asked (ask_store g l s) (one.land s which) s

-- a crash with a picture, of which question 1 is asked first; and one whose picture is the disk's own content
unfoldable pub ask_crash : Geometry → Lent → Store → (picture pictured : List ℕ) → ℕ
ask_crash g l s picture pictured = and_then (ask_journal g picture pictured) (ask_store g l s)

abbrev pub crash : Geometry → Lent → Store → (picture pictured : List ℕ) → StoreStepped
crash g l s picture pictured = asked (ask_crash g l s picture pictured) (accepted op.NoDiskOp (one.crashed s)) s

abbrev pub crash_lent : Geometry → Lent → Store → (picture pictured : List ℕ) → Lent
crash_lent g l s picture pictured = unless (ask_crash g l s picture pictured) l (one.crashed_lent l s picture pictured)

abbrev pub crash_in_place : Geometry → Lent → Store → StoreStepped
crash_in_place g l s = asked (ask_store g l s) (accepted op.NoDiskOp (one.crashed s)) s
