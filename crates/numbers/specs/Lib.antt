-- What crosses to other languages, by numbers. Read in this order.
pub mod Replies
pub mod Requests
