-- What is gathered of days that are read one after the other.
pub mod Days
