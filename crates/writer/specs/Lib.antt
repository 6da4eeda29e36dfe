pub mod Entries
pub mod Ring
