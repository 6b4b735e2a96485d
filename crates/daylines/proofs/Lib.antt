-- Case A, from its bytes to its text.
pub mod CaseA
