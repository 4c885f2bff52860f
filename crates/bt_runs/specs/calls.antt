-- What calls do, as contracts say it.
pub mod Complementing
pub mod Covering
pub mod Engine
pub mod MergedRuns
pub mod Merging
pub mod Stranding
pub mod Unstranded
