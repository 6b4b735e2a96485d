-- What is printed of a day file.
pub mod Printed
