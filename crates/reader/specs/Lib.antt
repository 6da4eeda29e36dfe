pub mod Answer
pub mod Range
pub mod Front
pub mod Entry
pub mod Listing
