mod SpreadLemmas
mod StepLemmas
pub mod OnLemmas
mod BlockLemmas
pub mod FindLemmas
mod BaseLemmas
mod GateLemmas
mod BeginLemmas
mod SetLemmas
mod LevelLemmas
mod SentLemmas
