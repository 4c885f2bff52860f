-- Lemmas by theme.
pub mod Active
pub mod Output
pub mod Plain
pub mod definitions
pub mod sweep
