-- What the functions over one lent process record ask for.
pub mod Turning
