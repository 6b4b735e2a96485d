-- What happens in a file, what asking keeps, and what the walks over what was read share.
pub mod Files
pub mod Kept
pub mod Boxes
