pub mod GoodLemmas
pub mod ChainLemmas
pub mod CanonicalLemmas
pub mod FormTextLemmas
