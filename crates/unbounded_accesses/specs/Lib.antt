-- What a turn reads.
pub mod Accesses
