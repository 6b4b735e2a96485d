-- Theorems about day files.
pub mod Numbers
pub mod Reader
pub mod RoundTrip
pub mod Counted
pub mod Files
pub mod Prefix
pub mod Pieces
pub mod Examples
