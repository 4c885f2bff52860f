-- Lemmas on reader, block.
pub mod BufferLemmas
pub mod FillLemmas
pub mod ReadsLemmas
