-- Lemmas on sweep.
pub mod HoldLemmas
pub mod JoinLemmas
pub mod KeepLemmas
pub mod RelateLemmas
pub mod SingleLemmas
pub mod StandLemmas
