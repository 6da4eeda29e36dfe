pub mod Reloaded
pub mod Lists
pub mod First
pub mod History
pub mod Stores
pub mod Ever
pub mod Added
