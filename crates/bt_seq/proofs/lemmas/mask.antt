-- Lemmas on mask.
pub mod bases
pub mod steps
