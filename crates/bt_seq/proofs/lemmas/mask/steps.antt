-- Lemmas on mask, steps.
pub mod AdvanceLemmas
pub mod BedStepLemmas
pub mod CopyLemmas
pub mod LineStepLemmas
