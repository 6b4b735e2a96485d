-- The laps of a run that prints a day file. Progress has what the code holds of a run.
pub mod Laps
pub mod Progress
