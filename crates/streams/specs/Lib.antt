-- What the system answers to a read or a write, and the input buffer by what the reads gave. Read in this order.
pub mod System
pub mod Input
