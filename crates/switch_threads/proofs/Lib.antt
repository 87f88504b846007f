pub mod EndLemmas
pub mod StayLemmas
pub mod OwnLemmas
pub mod ToldLemmas
pub mod AskLemmas
pub mod TurnLemmas
pub mod RunLemmas
pub mod SendLemmas
