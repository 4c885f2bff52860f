-- What calls do, as contracts say it.
pub mod Columns
pub mod Device
pub mod Names
pub mod Output
pub mod Reader
pub mod Line
pub mod Faults
pub mod Telling
