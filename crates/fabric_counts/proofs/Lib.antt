mod SendLemmas
pub mod LostLemmas
pub mod EndLemmas
mod MoreLemmas
pub mod PlaceLemmas
mod StepLemmas
pub mod HeightLemmas
mod LongestLemmas
