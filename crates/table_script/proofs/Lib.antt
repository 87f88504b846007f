pub mod PartLemmas
pub mod LabelLemmas
pub mod TableFormOf
pub mod JoinedLemmas
pub mod KeptLemmas
pub mod TableLaws
pub mod FinalLemmas
pub mod PairLemmas
pub mod DraftLemmas
pub mod ShortLemmas
pub mod NumberLineLemmas
pub mod ReadyLemmas
pub mod WalkJoined
mod WordLemmas
mod LineStep
mod NumberedLemmas
mod ShortPairs
