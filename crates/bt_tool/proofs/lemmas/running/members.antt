-- Lemmas on running, members.
pub mod BlockMembers
pub mod CursorLemmas
pub mod MemberLemmas
pub mod PassedLemmas
pub mod SeenLemmas
