pub mod Disk
pub mod Machine
pub mod Store
