-- The days of a quarter, from what the reads gave to what is gathered.
pub mod Days
