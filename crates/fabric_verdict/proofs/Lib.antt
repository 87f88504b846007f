pub mod RankLemmas
mod OneAnswer
pub mod NumberLemmas
mod ArriveLemmas
mod PassLemmas
mod PacketLemmas
mod RingLemmas
mod CycleLemmas
mod TrafficLemmas
pub mod LoopLemmas
mod WitnessLemmas
pub mod CountLemmas
mod EndLemmas
mod LinkLemmas
mod VerifyLemmas
