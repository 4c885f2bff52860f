-- Lemmas on running, pair.
pub mod PairMet
pub mod PairNear
pub mod PairStops
pub mod PairTurns
pub mod StopLemmas
