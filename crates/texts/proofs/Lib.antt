-- Laws of numerals and of laying text.
pub mod Numerals
pub mod Laying
