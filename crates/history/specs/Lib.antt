pub mod Ledger
pub mod Statement
pub mod Coverage
pub mod Before
pub mod Earlier
pub mod Driver
