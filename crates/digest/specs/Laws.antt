-- Laws of the check number: what a reader of its definitions need not read.
pub mod Takes
pub mod Turns
pub mod Parts
