-- The number that a word writes, what is laid of a quarter, and what a run writes.
pub mod Digits
pub mod Lines
pub mod Written
