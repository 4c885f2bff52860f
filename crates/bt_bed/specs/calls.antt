-- What calls do, as contracts say it.
pub mod Batch
pub mod Bed
pub mod Blocks
pub mod CursorLaws
pub mod CursorOf
pub mod Features
pub mod GenomeTable
pub mod LevelScan
pub mod Orders
pub mod Reading
pub mod Records
pub mod SortedReader
pub mod Stage
pub mod Stretches
