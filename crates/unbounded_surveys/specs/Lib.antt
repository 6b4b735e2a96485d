-- What a look at the records of a table finds.
pub mod Surveys
