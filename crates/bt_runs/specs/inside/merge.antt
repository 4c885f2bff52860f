-- Words of contracts inside of the crate.
pub mod StrandStep
pub mod UnstrandedStep
