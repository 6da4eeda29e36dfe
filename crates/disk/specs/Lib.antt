pub mod Disk
pub mod Questions
pub mod Next
pub mod Memory
pub mod Operation
pub mod Whole
pub mod Laws
pub mod Bounds
