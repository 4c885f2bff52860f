-- Words of contracts inside of the crate.
pub mod Feed
pub mod MaskLoop
pub mod Pair
pub mod Rounds
pub mod Setup
pub mod SweepLoop
pub mod UsageKinds
