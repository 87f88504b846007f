pub mod MarkLemmas
mod TakenLemmas
pub mod WordLemmas
mod RunLemmas
pub mod StartLemmas
mod AudienceLemmas
mod SenderLemmas
mod FoundLemmas
pub mod ChannelLemmas
pub mod TraceLemmas
mod UntilLemmas
pub mod WitnessLemmas
pub mod CountLemmas
