-- The desk count that is asked for, and a run of the program, from what the reads gave to what is written. Read in this order.
pub mod Counts
pub mod Runs
