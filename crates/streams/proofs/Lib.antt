-- What an answer of the system comes to, and reading a whole input.
pub mod Transfers
pub mod Refilling
pub mod Whole
