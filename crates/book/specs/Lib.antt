-- The book of a day file. Read in this order; Passes has how the code makes it.
pub mod DayBooks
pub mod Places
pub mod Passes
