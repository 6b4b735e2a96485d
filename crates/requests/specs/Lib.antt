-- Requests beside which a page list is lent.
pub mod Requests
