-- What a request by numbers comes to.
pub mod Requests
