pub mod Codec
pub mod Ranges
pub mod Sizes
pub mod Format
