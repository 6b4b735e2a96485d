-- What the functions over a lent table of process records compute. Read in this order.
pub mod Tables
pub mod Turning
pub mod Left
