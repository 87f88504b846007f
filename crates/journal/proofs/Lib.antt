pub mod FieldLemmas
pub mod LineLemmas
pub mod ReadLemmas
pub mod JournalLemmas
pub mod FaultLemmas
pub mod EitherLemmas
pub mod ReadingLemmas
pub mod ReadyLemmas
