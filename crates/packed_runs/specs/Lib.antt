-- A run of turns on a table of packed records.
pub mod Runs
