-- One superblock slot while it is read: what question 2 and the steps ask of it, and how a read ends.
use Rattle.superblock.specs.declared.Superblock.{Superblock}
use Rattle.std.specs.Prelude.{None, Some}
use Rattle.std.specs.declared.option.Option as code
use Rattle.std.specs.Prelude.{ℕ, Bool, true, false, cond, not, eqb}
use Rattle.layout.specs.declared.Geometry.{Geometry}
use Rattle.superblock.specs.Superblock.{wf_superblock}
use Rattle.loading.specs.declared.SlotRead.{SlotRead}
use Rattle.loading.specs.declared.SlotRead.TheVariants as slot

-- a superblock that was read is well formed
abbrev pub success_wf : Geometry → SlotRead → Bool
success_wf g slot.Unasked = true
success_wf g (slot.Awaited id) = true
success_wf g (slot.Success superblock) = wf_superblock g superblock
success_wf g slot.Corruption = true

-- the read under an id is awaited
abbrev pub slot_awaits : SlotRead → ℕ → Bool
slot_awaits slot.Unasked id = false
slot_awaits (slot.Awaited k) id = eqb k id
slot_awaits (slot.Success superblock) id = false
slot_awaits slot.Corruption id = false

-- the slot has not been asked for, or is to be asked for anew
abbrev pub slot_unasked : SlotRead → Bool
slot_unasked slot.Unasked = true
slot_unasked (slot.Awaited id) = false
slot_unasked (slot.Success superblock) = false
slot_unasked slot.Corruption = false

abbrev pub slot_corrupt : SlotRead → Bool
slot_corrupt slot.Unasked = false
slot_corrupt (slot.Awaited id) = false
slot_corrupt (slot.Success superblock) = false
slot_corrupt slot.Corruption = true

abbrev pub slot_succeeded : SlotRead → Bool
slot_succeeded slot.Unasked = false
slot_succeeded (slot.Awaited id) = false
slot_succeeded (slot.Success superblock) = true
slot_succeeded slot.Corruption = false

-- the superblock that was read
abbrev pub slot_holds : SlotRead → code.Option Superblock
slot_holds slot.Unasked = None
slot_holds (slot.Awaited id) = None
slot_holds (slot.Success superblock) = Some superblock
slot_holds slot.Corruption = None

-- the two slots are not read under one id
abbrev pub slot_reads_differ : SlotRead → SlotRead → Bool
slot_reads_differ slot.Unasked other = true
slot_reads_differ (slot.Awaited id) other = not (slot_awaits other id)
slot_reads_differ (slot.Success superblock) other = true
slot_reads_differ slot.Corruption other = true

-- 000's `sup`: damaged or ill formed, a read leaves the slot corrupt
abbrev pub slot_read : Geometry → code.Option Superblock → SlotRead
slot_read g (Some superblock) = cond (wf_superblock g superblock) (slot.Success superblock) slot.Corruption
slot_read g None = slot.Corruption
