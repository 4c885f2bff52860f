-- Lemmas on mask, bases.
pub mod KnownLemmas
pub mod MaskingLemmas
