-- Lemmas on running, sweep.
pub mod SweepFacts
pub mod SweepRounds
pub mod SweptLemmas
