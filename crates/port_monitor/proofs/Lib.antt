pub mod LinkLemmas
pub mod RowLemmas
pub mod TwelveLemmas
