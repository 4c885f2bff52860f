-- Lemmas by theme.
pub mod Given
pub mod order
pub mod survey
