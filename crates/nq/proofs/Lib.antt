-- What the reader of day files finds fits its numbers.
pub mod Shortness
