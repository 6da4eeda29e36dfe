pub mod Most
pub mod Superblocks
pub mod Journal
pub mod Named
pub mod Longest
