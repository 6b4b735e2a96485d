-- A table of packed records.
pub mod Rows
