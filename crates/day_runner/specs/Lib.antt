-- The passes of the day runner, each with a read, the laps on what came, and a write.
pub mod Passes
