-- What the functions of a run compute that no method owns.
pub mod Plans
pub mod Given
