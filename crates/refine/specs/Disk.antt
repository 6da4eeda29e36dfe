-- The disk (crates disk and crash) against source 001: the view, question 2 both ways, and each operation and the crash sound, complete and
-- refused.
pub mod View
pub mod Meets
pub mod Calls
pub mod SuperblockReads
pub mod JournalReads
pub mod SuperblockWrites
pub mod JournalWrites
pub mod Step
pub mod Picture
pub mod Crash
pub mod Numbers
pub mod Bounds
