-- The next step of a store that loads: slot 1 is seen through, then slot 2, and the superblocks are finished; then the front, the back and the end
-- likewise.
use Rattle.std.specs.declared.option.Option as code
use Rattle.std.specs.Prelude.{ℕ, true, cond, eqb, Some, None, Result, Ok, Err}
use Rattle.interval.specs.declared.JournalInterval.{JournalInterval}
use Rattle.refusal.specs.declared.Refusal.{Refusal}
use Rattle.refusal.specs.declared.Refusal.TheVariants as no
use Rattle.refusal.specs.Refusal.{refusal}
use Rattle.layout.specs.declared.Geometry.{Geometry}
use Rattle.loading.specs.declared.SlotRead.{SlotRead}
use Rattle.loading.specs.declared.SlotRead.TheVariants as slot
use Rattle.loading.specs.declared.Piece.{Piece}
use Rattle.loading.specs.declared.Piece.TheVariants as piece
use Rattle.loading.specs.declared.LoadingSuperblock.{LoadingSuperblock}
use Rattle.loading.specs.declared.LoadingOther.{LoadingOther}
use Rattle.loading.specs.Other.{front_of, back_of}
use Rattle.machine.specs.Machine.{by_kind}
use Rattle.store.specs.declared.Store.{Store}
use Rattle.store.specs.Lent.{Lent, ask_store}
use Rattle.calls.specs.declared.calls.Step.{Step}
use Rattle.calls.specs.declared.calls.Step.TheVariants as step
use Rattle.driver.specs.Ids.{least_new}

-- a slot: asked for under a new id, answered whole, asked again where it is corrupt; where it was read, what comes after it
abbrev pub slot_step : (new which : ℕ) → SlotRead → Step → Step
slot_step new which slot.Unasked after = step.PageInSuperblockReq which new
slot_step new which (slot.Awaited id) after = step.PageInSuperblockResp which id true
slot_step new which (slot.Success superblock) after = after
slot_step new which slot.Corruption after = step.AskAgain which

-- a piece: asked for under a new id, answered whole; where there is none or it is in, what comes after it
abbrev pub piece_step : (new which : ℕ) → code.Option JournalInterval → Piece → Step → Step
piece_step new which None p after = after
piece_step new which (Some v) piece.Unread after = step.PageInJournalReq which new
piece_step new which (Some v) (piece.Reading id) after = step.PageInJournalResp id true
piece_step new which (Some v) piece.In after = after

unfoldable pub superblocks_step : ℕ → LoadingSuperblock → Step
superblocks_step new s =
    slot_step new 0 s.first
    (slot_step new 1 s.second
    step.FinishLoadingSuperblockPhase)

unfoldable pub other_step : Geometry → ℕ → LoadingOther → Step
other_step g new s =
    piece_step new 0 (front_of g s.superblock) s.front
    (piece_step new 1 (back_of g s.superblock) s.back
    step.FinishLoadingOtherPhase)

-- by the kind; question 3 is answered no at Ready
unfoldable pub loading_step : Geometry → Store → Result Step Refusal
loading_step g s =
    by_kind s.machine.kind
    (Ok (superblocks_step (least_new s.disk) s.machine.superblocks))
    (Ok (other_step g (least_new s.disk) s.machine.other))
    (Err no.Kind)

-- questions 1 and 2 of all that is handed come first
unfoldable pub next_step : Geometry → Lent → Store → Result Step Refusal
next_step g l s = cond (eqb (ask_store g l s) 0) (loading_step g s) (Err (refusal (ask_store g l s)))
