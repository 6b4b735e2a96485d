-- What the laps of a run come to and print, and what the walk of `run` carries.
pub mod Laps
pub mod Printing
