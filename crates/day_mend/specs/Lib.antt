-- A run of the program, from what the reads gave to what is written.
pub mod Runs
