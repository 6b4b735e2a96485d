-- That runs on words are runs on records.
pub mod Chained
