-- Words of contracts inside of the crate.
pub mod Options
pub mod Watching
pub mod Seeing
pub mod Watched
