pub mod Superblock
pub mod Laws
