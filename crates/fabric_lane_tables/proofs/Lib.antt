pub mod RowLemmas
pub mod BlockLemmas
pub mod SelectLemmas
mod SameLemmas
mod InUseLemmas
mod WideLemmas
