-- Lemmas on coverage.
pub mod DepthSteps
pub mod LevelLemmas
pub mod OpenLemmas
