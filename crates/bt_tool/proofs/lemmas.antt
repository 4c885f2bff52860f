-- Lemmas by theme.
pub mod Division
pub mod Fraction
pub mod Options
pub mod Planning
pub mod running
