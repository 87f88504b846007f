pub mod PieceLemmas
pub mod ReadLemmas
pub mod TextLaws
pub mod MapLemmas
