mod OwnedLemmas
mod SideLemmas
pub mod FabricLemmas
mod NewLemmas
mod NodeLemmas
mod OwnerLemmas
pub mod OneLemmas
