pub mod RouteLemmas
pub mod LeastLemmas
pub mod OrderLemmas
pub mod StepLemmas
pub mod LegalLemmas
pub mod PlaceLemmas
