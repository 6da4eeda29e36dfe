-- Laws of the machine's definitions: what a reader of them need not read, and what the crates above cite.
pub mod Answers
pub mod Parts
pub mod Entries
pub mod Memory
