pub mod Sector
pub mod Answer
pub mod Selection
pub mod Laws
pub mod Fields
pub mod Round
