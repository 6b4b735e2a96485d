-- What a look at every record of a table finds.
pub mod Surveys
