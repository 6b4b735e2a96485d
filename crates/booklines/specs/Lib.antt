-- The text of a book, and what the code lays of it by its places. Read in this order.
pub mod BookText
pub mod PlaceText
