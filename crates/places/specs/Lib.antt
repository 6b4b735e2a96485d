-- The places of a book, and what an answer makes of them. Read in this order.
pub mod Places
pub mod Answers
