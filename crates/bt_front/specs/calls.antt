-- What calls do, as contracts say it.
pub mod Bytes
pub mod Chromosomes
pub mod OrderText
pub mod Orders
pub mod Survey
pub mod Verdicts
pub mod Stream
