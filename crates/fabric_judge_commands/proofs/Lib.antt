pub mod EndLemmas
mod NameLemmas
pub mod RankLemmas
mod TextLemmas
mod ReadLemmas
mod AcceptLemmas
