pub mod Picture
pub mod Whole
pub mod Laws
pub mod Bounds
