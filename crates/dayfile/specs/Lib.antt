-- Day files (document 01, Day files and the day runner). Read in this order.
pub mod Layout
pub mod Reader
pub mod Files
pub mod Pieces
