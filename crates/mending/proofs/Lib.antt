-- What is claimed of a mended file, and files that are mended by computing.
pub mod Claims
pub mod Cases
