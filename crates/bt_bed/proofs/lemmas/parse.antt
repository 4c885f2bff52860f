-- Lemmas on parse.
pub mod FeatureLemmas
pub mod NameLemmas
pub mod StrandLemmas
