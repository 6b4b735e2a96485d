-- The lines of what was dropped.
pub mod DropText
