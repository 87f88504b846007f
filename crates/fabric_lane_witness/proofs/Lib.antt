mod WalkLemmas
mod TakeLemmas
