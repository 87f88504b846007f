pub mod FirstLemmas
pub mod ReadingLemmas
pub mod SaidLemmas
pub mod TableLaws
mod ListLemmas
mod RowStepLemmas
mod UnicastLemmas
