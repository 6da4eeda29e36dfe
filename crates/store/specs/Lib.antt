pub mod Store
pub mod Lent
pub mod Steps
pub mod Whole
pub mod Laws
