-- Words of contracts inside of the crate.
pub mod Held
pub mod Joining
pub mod Pieces
pub mod Shapes
