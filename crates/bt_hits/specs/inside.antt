-- Words of contracts inside of the crate.
pub mod Ending
pub mod Meeting
pub mod Reading
pub mod Writing
