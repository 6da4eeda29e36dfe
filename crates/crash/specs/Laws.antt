-- Laws of the crash: what a reader of its definitions need not read, and what the crates above cite.
pub mod Picked
pub mod Rows
pub mod Memory
pub mod Whole
