-- Words of contracts inside of the crate.
pub mod Coverage
pub mod GapRule
pub mod PlainRuns
pub mod Walk
pub mod merge
pub mod GapStep
