-- Lemmas on running, mask.
pub mod MaskAdvanced
pub mod MaskBoth
pub mod MaskFacts
pub mod MaskRounds
pub mod MaskedLemmas
