-- Words of contracts inside of the crate.
pub mod FirstColumns
pub mod OrderedLookahead
pub mod RankTotal
