pub mod Comes
pub mod Superblocks
pub mod Journal
pub mod Loads
