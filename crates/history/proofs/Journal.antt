pub mod Holds
pub mod Slots
