-- How a reply lies in a table.
pub mod Laid
