pub mod Loadable
pub mod Loads
pub mod Brings
pub mod Stores
