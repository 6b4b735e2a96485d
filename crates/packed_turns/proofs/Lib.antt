-- That the words after a turn are those of the record that it leaves.
pub mod Laid
pub mod Begun
pub mod Went
pub mod Ended
