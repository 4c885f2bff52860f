-- Lemmas on running.
pub mod feed
pub mod mask
pub mod members
pub mod pair
pub mod sweep
pub mod whole
