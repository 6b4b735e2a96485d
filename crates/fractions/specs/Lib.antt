-- Fractions in lowest terms.
pub mod Fractions
