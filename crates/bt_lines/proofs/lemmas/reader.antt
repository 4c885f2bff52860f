-- Lemmas on reader.
pub mod block
pub mod lines
