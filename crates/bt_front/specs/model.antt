-- What one has to believe: for which words bedtools takes a command line.
pub mod Words
pub mod Fitting
pub mod Odd
pub mod Verdict
pub mod Survey
pub mod Extents
