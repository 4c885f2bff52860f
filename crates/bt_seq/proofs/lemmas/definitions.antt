-- Lemmas on definitions.
pub mod KnowsLemmas
pub mod MaskPrefixLemmas
