pub mod ChainLemmas
pub mod ShownLemmas
pub mod PutLemmas
pub mod FreeLemmas
pub mod PieceLemmas
pub mod StartLemmas
pub mod SlipLemmas
