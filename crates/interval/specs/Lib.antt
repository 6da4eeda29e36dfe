pub mod Interval
pub mod Overlap
pub mod Journal
pub mod Facts
