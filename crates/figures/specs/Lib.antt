-- Figures for the quarter, and how the code sums them up. Read in this order.
pub mod Figures
pub mod Sums
