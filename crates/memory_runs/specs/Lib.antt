-- A run of turns of Figure 3 on a lent table.
pub mod Runs
