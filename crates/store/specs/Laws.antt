-- Laws of the store's definitions: what a reader of them need not read, and what the crates above cite.
pub mod Answers
pub mod Memory
pub mod Whole
