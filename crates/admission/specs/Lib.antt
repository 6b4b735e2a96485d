-- What the functions that no method owns compute: the refusals of a request, and its outcome. Read in this order.
pub mod Checks
pub mod Outcomes
