pub mod NoFabricLemmas
pub mod FoundLemmas
