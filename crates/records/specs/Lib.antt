pub mod Pictures
pub mod Stores
pub mod Records
pub mod Code
pub mod Proofs
