pub mod Rows
pub mod IdTable
pub mod IntervalTable
pub mod SyncTable
pub mod Bounds
