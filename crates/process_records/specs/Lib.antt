-- A process record, however it is kept.
pub mod Forms
pub mod Turned
