-- What stored parts make of words, and of a packed record.
pub mod Stored
