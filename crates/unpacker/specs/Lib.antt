pub mod Walked
pub mod Unpack
