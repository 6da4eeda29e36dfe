pub mod Limits
pub mod Slots
pub mod Receive
pub mod Acknowledge
pub mod Landing
pub mod Laws
pub mod Bounds
