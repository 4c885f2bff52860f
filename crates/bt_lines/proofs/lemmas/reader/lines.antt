-- Lemmas on reader, lines.
pub mod BufferedLemmas
pub mod ComingLemmas
pub mod StepLemmas
pub mod TakingLemmas
pub mod TextLemmas
