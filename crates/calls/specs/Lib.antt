pub mod Given
pub mod Step
pub mod Laws
pub mod Bounds
