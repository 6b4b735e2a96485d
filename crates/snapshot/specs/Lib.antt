-- What an atomic snapshot memory answers and owes, whatever the method. Read in this order.
pub mod Requests
pub mod Refusals
pub mod Lists
pub mod Values
pub mod Tally
pub mod Demand
pub mod Closing
pub mod Days
pub mod Replies
pub mod Verdict
pub mod Marks
pub mod Canonical
pub mod Book
pub mod LastWritings
pub mod Runs
