-- Lemmas on merge.
pub mod Bridging
pub mod MergeLemmas
pub mod PerStrandLemmas
pub mod SettledRuns
pub mod StrandListing
pub mod StrandSettling
pub mod UnstrandedLemmas
