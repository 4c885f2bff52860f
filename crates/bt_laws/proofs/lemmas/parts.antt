-- Lemmas on parts.
pub mod PartGenomes
pub mod PartLines
pub mod PartMaskReports
pub mod PartMerge
pub mod PartOwnGenomes
pub mod PartReports
pub mod PartSequences
pub mod PartSweep
pub mod PartTexts
