-- Turns on one packed record.
pub mod Places
