-- What the program lays of its input, and what a run writes.
pub mod Inputs
pub mod Written
