-- Lemmas by theme.
pub mod Definitions
pub mod LevelScans
pub mod StretchScans
pub mod Writing
pub mod order
pub mod parse
pub mod read
