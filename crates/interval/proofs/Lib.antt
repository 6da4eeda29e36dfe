pub mod Laws
pub mod Update
pub mod Meets
