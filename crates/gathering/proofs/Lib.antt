-- How the code gathers, what is held in the end, and answers computed from the bytes of files.
pub mod Putting
pub mod Passing
pub mod Kept
pub mod Cases
