pub mod FloodLemmas
pub mod FloodLaws
