-- How many processes a search for a lender passes.
pub mod Passed
pub mod Firsts
