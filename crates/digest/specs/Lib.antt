pub mod Take
pub mod Visible
pub mod Laws
