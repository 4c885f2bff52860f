-- What one has to believe: the definitions that the report names.
pub mod Feature
pub mod Genome
pub mod Good
pub mod Order
pub mod Sorted
pub mod Meeting
pub mod BedLine
pub mod Positions
pub mod Levels
