-- A process record as words.
pub mod Packing
