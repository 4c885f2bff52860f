-- What calls do, as contracts say it.
pub mod MaskStage
pub mod MaskSteps
pub mod Sam
pub mod MaskState
pub mod Alignments
