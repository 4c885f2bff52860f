-- Lemmas on read, good.
pub mod ReadingLemmas
pub mod SaidLemmas
pub mod SaidRuns
