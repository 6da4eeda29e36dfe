pub mod Low
pub mod Compare
pub mod Ends
