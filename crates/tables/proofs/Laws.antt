-- Laws of the tables. What the crates above cite is in Counts, IdTables, RowTables, IntervalTables and SyncTables; the others serve those
-- and the code.
pub mod Places
pub mod Walks
pub mod Arrays
pub mod Counts
pub mod IdTables
pub mod RowTables
pub mod IntervalTables
pub mod SyncTables
