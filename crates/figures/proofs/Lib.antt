-- What the sums of the code come to, and what holds of the figures.
pub mod Summed
pub mod Claims
