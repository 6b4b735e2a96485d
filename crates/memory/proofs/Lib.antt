-- What only proofs need: the facts that they cite of an accepted request, what it stores, what a request leaves, and that records kept as
-- they are, are the records.
pub mod Accepted
pub mod Cleared
pub mod Stored
pub mod Left
pub mod Plain
