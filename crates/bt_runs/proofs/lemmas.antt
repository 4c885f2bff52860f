-- Lemmas by theme.
pub mod Engine
pub mod Lists
pub mod complement
pub mod coverage
pub mod definitions
pub mod merge
pub mod order
