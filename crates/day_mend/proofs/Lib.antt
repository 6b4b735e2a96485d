-- What a run hands to the system.
pub mod Inputs
pub mod Passed
pub mod Written
