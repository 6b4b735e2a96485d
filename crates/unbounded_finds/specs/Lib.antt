-- What a turn finds.
pub mod Finds
