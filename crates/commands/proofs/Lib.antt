pub mod GenLemmas
pub mod ReplayLemmas
pub mod TopLemmas
pub mod RunLemmas
pub mod InTimeLemmas
pub mod CompleteLemmas
pub mod BehindLemmas
pub mod CommentLemmas
