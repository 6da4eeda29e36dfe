pub mod Place
pub mod Line
pub mod Decimal
pub mod Hex
