-- The page answers of day files, and how they are gathered in a lent list. Read in this order.
pub mod Answers
pub mod Gathered
pub mod Laps
