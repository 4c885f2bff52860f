-- Lemmas on definitions.
pub mod PlainLevels
pub mod PlainSpans
pub mod Standing
