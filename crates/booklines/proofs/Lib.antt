-- Laying the lines of a book, that the text of its places is that of its operations, and case A's book as it is printed.
pub mod Laying
pub mod Operations
pub mod CaseA
