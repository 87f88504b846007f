pub mod OrderLaws
pub mod LifeLemmas
pub mod WalkLemmas
pub mod PlaceLaws
pub mod PortSetLemmas
