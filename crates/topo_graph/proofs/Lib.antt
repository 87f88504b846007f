pub mod PlaceLemmas
pub mod RowLemmas
pub mod FarLemmas
pub mod TreeLemmas
