pub mod BlockLemmas
pub mod CommonLemmas
pub mod FittingLemmas
pub mod LineNameLemmas
pub mod OrderLaws
pub mod OrderTextLemmas
pub mod TakenLemmas
