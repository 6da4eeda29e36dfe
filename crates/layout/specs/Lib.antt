pub mod Geometry
pub mod Location
pub mod Journal
pub mod Laws
