-- What the functions of this crate need.
pub mod Halves
pub mod Onward
pub mod Fitting
pub mod Going
pub mod Looped
