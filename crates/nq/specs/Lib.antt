-- What the library's functions reply and leave.
pub mod Requests
