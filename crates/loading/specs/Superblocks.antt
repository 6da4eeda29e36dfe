-- Loading the superblocks: question 2's test of the record, and of each step its own questions and its effect.
use Rattle.std.specs.Prelude.{None, Some}
use Rattle.std.specs.declared.option.Option as code
use Rattle.std.specs.Prelude.{ℕ, Bool, cond, not}
use Rattle.laws.specs.Choice.{also, ask, and_then}
use Rattle.layout.specs.declared.Geometry.{Geometry}
use Rattle.superblock.specs.declared.Superblock.{Superblock}
use Rattle.loading.specs.declared.SlotRead.{SlotRead}
use Rattle.loading.specs.declared.SlotRead.TheVariants as slot
use Rattle.loading.specs.declared.LoadingSuperblock.{LoadingSuperblock}
use Rattle.loading.specs.declared.LoadingOther.{LoadingOther}
use Rattle.loading.specs.Which.{is_second, ask_which}
use Rattle.loading.specs.Slots.{success_wf, slot_awaits, slot_unasked, slot_corrupt, slot_succeeded, slot_holds, slot_reads_differ, slot_read}
use Rattle.loading.specs.Other.{selected_other}

abbrev pub slots : SlotRead → SlotRead → LoadingSuperblock
slots first second = record { first = first; second = second }

-- 000's Init
abbrev pub initial : LoadingSuperblock
initial = slots slot.Unasked slot.Unasked

-- question 2: 000's InvLoadingSuperblock, of which `success_read` and `corruption_read` are met by the type; the two reads differ
unfoldable pub loading_superblock_ok : Geometry → LoadingSuperblock → Bool
loading_superblock_ok g s =
    also (also (success_wf g s.first)
    (success_wf g s.second))
    (slot_reads_differ s.first s.second)

-- the slot that a number names, the other one, and the record with another read in that slot
abbrev pub slot_at : LoadingSuperblock → ℕ → SlotRead
slot_at s which = cond (is_second which) s.second s.first

abbrev pub other_slot : LoadingSuperblock → ℕ → SlotRead
other_slot s which = cond (is_second which) s.first s.second

abbrev pub to_slot : LoadingSuperblock → ℕ → SlotRead → LoadingSuperblock
to_slot s which r = cond (is_second which) (slots s.first r) (slots r s.second)

-- PageInSuperblockReq: 4 which; 5 under the other slot's waiting id; 6 unless the slot is unasked
unfoldable pub ask_page_in_superblock_req : LoadingSuperblock → ℕ → ℕ → ℕ
ask_page_in_superblock_req s which id =
    and_then (ask_which which)
    (and_then (ask 5 (not (slot_awaits (other_slot s which) id)))
    (ask 6 (slot_unasked (slot_at s which))))

unfoldable pub page_in_superblock_req_next : LoadingSuperblock → ℕ → ℕ → LoadingSuperblock
page_in_superblock_req_next s which id = to_slot s which (slot.Awaited id)

-- PageInSuperblockResp: awaited, it ends the slot's read; awaited by nobody, it alters nothing
unfoldable pub superblock_awaited : LoadingSuperblock → ℕ → ℕ → Bool
superblock_awaited s which id = slot_awaits (slot_at s which) id

unfoldable pub page_in_superblock_resp_next : Geometry → LoadingSuperblock → ℕ → ℕ → code.Option Superblock → LoadingSuperblock
page_in_superblock_resp_next g s which id r = cond (superblock_awaited s which id) (to_slot s which (slot_read g r)) s

-- one thing where a slot has a superblock, another where it has none
abbrev pub if_holds {ℓ} : {A : Type ℓ} → code.Option Superblock → (Superblock → A) → A → A
if_holds (Some superblock) f a = f superblock
if_holds None f a = a

-- FinishLoadingSuperblockPhase: 6 unless both slots were read; the newer superblock is selected
unfoldable pub ask_finish_loading_superblock_phase : LoadingSuperblock → ℕ
ask_finish_loading_superblock_phase s = ask 6 (also (slot_succeeded s.first) (slot_succeeded s.second))

unfoldable pub finish_loading_superblock_phase_next : LoadingSuperblock → LoadingOther → LoadingOther
finish_loading_superblock_phase_next s other =
    if_holds (slot_holds s.first) (λ superblock1. if_holds (slot_holds s.second) (λ superblock2. selected_other superblock1 superblock2) other) other

-- ask again: 4 which; 6 unless the slot is corrupt
unfoldable pub ask_ask_again : LoadingSuperblock → ℕ → ℕ
ask_ask_again s which = and_then (ask_which which) (ask 6 (slot_corrupt (slot_at s which)))

unfoldable pub ask_again_next : LoadingSuperblock → ℕ → LoadingSuperblock
ask_again_next s which = to_slot s which slot.Unasked
