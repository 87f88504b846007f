mod WordLemmas
pub mod RowLemmas
pub mod PictureLemmas
