-- Lemmas on numbers.
pub mod EightLemmas
pub mod NumberLemmas
