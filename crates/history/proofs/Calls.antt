pub mod Called
pub mod Can
pub mod Finish
