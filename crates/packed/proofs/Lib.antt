-- That packing and unpacking undo each other, where each word of a record lies, and that a task of an unknown kind cannot have
-- arisen.
pub mod Words
pub mod Made
pub mod Packing
pub mod Kept
pub mod Example
pub mod Unknown
