pub mod RankLemmas
pub mod OneAnswer
mod InsertLemmas
mod CursorLemmas
mod BitLemmas
mod HeightLemmas
mod CycleLemmas
mod ExactLemmas
mod RisingLemmas
mod OptionLemmas
pub mod NumberLemmas
pub mod PathLemmas
mod WithinLemmas
pub mod EmptyLemmas
