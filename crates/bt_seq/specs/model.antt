-- What one has to believe: the definitions that the report names.
pub mod Alignment
pub mod BedLines
pub mod Cigar
pub mod Fasta
pub mod Masked
pub mod SequenceBlocks
