pub mod Setting
pub mod Walk
pub mod Morning
pub mod States
pub mod Day
pub mod Example
