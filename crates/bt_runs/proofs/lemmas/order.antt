-- Lemmas on order.
pub mod ByChromosome
pub mod FileOrder
