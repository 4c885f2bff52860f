-- Lemmas by theme.
pub mod Bins
pub mod Ending
pub mod Listing
pub mod Meeting
pub mod Orders
pub mod Reading
pub mod Writing
