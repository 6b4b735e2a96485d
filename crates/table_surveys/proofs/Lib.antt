-- That what a survey sums up decides as the day's definitions do.
pub mod Surveyed
