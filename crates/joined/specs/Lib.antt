pub mod Awaited
pub mod Held
pub mod Apart
pub mod Joined
