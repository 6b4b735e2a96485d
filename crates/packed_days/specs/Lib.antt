-- A box whose records lie as words.
pub mod Boxes
