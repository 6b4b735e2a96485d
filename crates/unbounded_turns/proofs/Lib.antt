-- That the steps of the code are a turn.
pub mod Parts
pub mod Clearing
pub mod Steps
