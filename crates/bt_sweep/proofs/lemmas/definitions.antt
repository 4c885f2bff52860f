-- Lemmas on definitions.
pub mod HitLemmas
pub mod PieceLemmas
