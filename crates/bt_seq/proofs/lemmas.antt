-- Lemmas by theme.
pub mod BamToBed
pub mod Sam
pub mod definitions
pub mod mask
