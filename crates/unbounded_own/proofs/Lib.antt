-- What only proofs need: a collect cleared.
pub mod Clearing
