-- What the functions on one process record compute, for registers read in ascending order.
pub mod Steps
