-- Lemmas by theme.
pub mod Counts
pub mod parts
pub mod pipes
pub mod same
pub mod single
