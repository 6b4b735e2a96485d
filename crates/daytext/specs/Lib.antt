-- The printed lines of a day and of its book, and what it is to lay one into a buffer. Read in this order.
pub mod Lines
pub mod Buffer
