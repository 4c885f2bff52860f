-- What calls do, as contracts say it.
pub mod Answer
pub mod Call
pub mod GenomeFiles
pub mod Gzip
pub mod Hits
pub mod Inputs
pub mod Line
pub mod Looks
pub mod Marks
pub mod Names
pub mod Opening
pub mod Original
pub mod Versions
pub mod Warnings
pub mod Whys
pub mod Words
