-- The records of a table of packed records.
pub mod Rows
