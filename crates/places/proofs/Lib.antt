-- Putting a place among others, as the code does it and as `place` has it; and what an answer makes of a book.
pub mod Spots
pub mod Placed
pub mod Kept
