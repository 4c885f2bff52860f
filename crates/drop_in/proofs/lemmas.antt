-- Lemmas by theme.
pub mod GenomeLemmas
pub mod GzipLemmas
pub mod HitLemmas
pub mod KeptLemmas
pub mod MarkLemmas
pub mod OddLemmas
pub mod OriginalLemmas
pub mod TakenLemmas
pub mod WordsLemmas
