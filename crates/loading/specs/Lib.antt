pub mod Which
pub mod Slots
pub mod Pieces
pub mod Other
pub mod Superblocks
pub mod Laws
pub mod Bounds
