-- A request on a table of packed records.
pub mod Tables
