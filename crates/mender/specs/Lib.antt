-- What mending a file answers and leaves, and how the code does it. Read in this order.
pub mod Results
pub mod Passes
