-- What asking a record leaves of a box whose records lie as words, and the box that a file begins with.
pub mod After
pub mod Blank
