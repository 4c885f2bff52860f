-- Lemmas on complement.
pub mod GapRuleLemmas
pub mod Walks
