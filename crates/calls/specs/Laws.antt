-- Laws of the step over all calls: what a reader of its definition need not read, and what the crates above cite.
pub mod Asked
pub mod Named
