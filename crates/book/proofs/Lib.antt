-- What is heard of a day file and what it makes of a book; how the code makes it; and what is claimed of it.
pub mod DayFollows
pub mod PageWords
pub mod BookWords
pub mod DayBooked
pub mod Past
pub mod Passing
pub mod Noted
pub mod Written
pub mod Fits
pub mod Cases
