-- A file's records with their outcomes and pages. Read in this order.
pub mod Asking
pub mod Happenings
