-- Where a line is laid, how long it is, and case B's lines and book as they are printed.
pub mod Room
pub mod Lengths
pub mod CaseB
