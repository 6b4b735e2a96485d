-- The records that a table keeps, however it keeps them.
pub mod Kept
