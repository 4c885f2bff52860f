-- Lemmas on read.
pub mod ColumnLemmas
pub mod batch
pub mod good
