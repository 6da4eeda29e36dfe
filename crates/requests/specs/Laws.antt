-- Laws of these definitions: what a reader of them need not read, and what the crates above cite.
pub mod Pairs
pub mod Receive
pub mod Acknowledge
pub mod Landing
