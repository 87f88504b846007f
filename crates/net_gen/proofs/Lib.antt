pub mod NameLemmas
pub mod LinkLemmas
pub mod MadeLemmas
pub mod ToldLemmas
pub mod RunLemmas
pub mod CommentLemmas
