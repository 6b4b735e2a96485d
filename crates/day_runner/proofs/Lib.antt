-- What a pass comes to, and what the passes write.
pub mod Passing
pub mod Written
