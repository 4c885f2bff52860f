-- What one has to believe: the definitions that the report names.
pub mod Bins
