-- Lemmas on the laws of one run.
pub mod LevelLemmas
pub mod Records
pub mod Reports
pub mod Sequences
pub mod StrandOrder
pub mod Sweeps
