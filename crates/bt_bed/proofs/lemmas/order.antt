-- Lemmas on order.
pub mod OrderLemmas
pub mod TableLemmas
