mod LineLemmas
mod LawLemmas
mod TwoEndLemmas
pub mod FitLemmas
mod ViewLemmas
