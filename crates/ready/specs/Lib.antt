pub mod State
pub mod Inv
pub mod JournalSteps
pub mod CommitSteps
pub mod FreezeSteps
pub mod EntrySteps
pub mod Laws
pub mod Bounds
