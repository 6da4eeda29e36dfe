-- Laws of the definitions: what a reader of them need not read, and what the crates above cite.
pub mod Ring
pub mod Asked
pub mod Next
pub mod Facts
pub mod Sends
