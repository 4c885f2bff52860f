-- Words of contracts inside of the crate.
pub mod Masking
pub mod Sam
pub mod Window
