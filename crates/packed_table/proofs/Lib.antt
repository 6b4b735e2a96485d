-- A table of packed records beside the records that they are; requests on words chain as those on records do.
pub mod Formed
pub mod Chained
