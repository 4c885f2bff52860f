-- Lemmas on running, whole.
pub mod OwnFailureLemmas
pub mod RunningLemmas
