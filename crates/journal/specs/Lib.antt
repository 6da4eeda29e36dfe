pub mod Memory
pub mod Asked
pub mod Laws
pub mod Cells
pub mod Blocks
pub mod Update
pub mod Bounds
