-- Lemmas by theme.
pub mod Device
pub mod Passing
pub mod Writer
pub mod numbers
pub mod reader
