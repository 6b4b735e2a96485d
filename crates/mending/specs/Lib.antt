-- Bringing back a damaged day file (document 02, K7). Read in this order; Judging has how the code judges a piece.
pub mod Mending
pub mod Claims
pub mod Judging
