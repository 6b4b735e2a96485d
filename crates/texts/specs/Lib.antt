-- Text as bytes, numbers as text, and what it is to lay them into a buffer. Read in this order.
pub mod Ascii
pub mod Decimal
pub mod Laying
