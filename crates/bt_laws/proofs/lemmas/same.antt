-- Lemmas on same.
pub mod GapsHit
pub mod LengthLaws
pub mod MaskTwice
pub mod SameRuns
pub mod SameSweeps
