-- What calls do, as contracts say it.
pub mod Given
pub mod Lent
pub mod Plan
pub mod Run
pub mod Limits
pub mod Inputs
pub mod CommandLine
