-- Lemmas on read, batch.
pub mod BlocksLemmas
pub mod RecordsLemmas
pub mod SortedReaderLemmas
