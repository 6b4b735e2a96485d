-- What the greatest common divisor is, and lowest terms.
pub mod Divisors
