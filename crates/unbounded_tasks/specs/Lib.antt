-- What the functions on a task compute.
pub mod Tasks
