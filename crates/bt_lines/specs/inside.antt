-- Words of contracts inside of the crate.
pub mod Copying
pub mod Digits
pub mod ReadBuffer
pub mod Shape
pub mod Spill
