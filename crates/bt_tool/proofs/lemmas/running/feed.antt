-- Lemmas on running, feed.
pub mod DrivingLemmas
pub mod FeedLemmas
pub mod WritingLemmas
