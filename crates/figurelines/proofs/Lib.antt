-- The texts of the line.
pub mod Texts
