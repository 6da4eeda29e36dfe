-- Laws of the disk's definitions: what a reader of them need not read, and what the crates above cite.
pub mod Answers
pub mod Questions
pub mod Next
pub mod Memory
pub mod Operation
