mod LawLemmas
mod ChannelLemmas
mod NumberLemmas
mod ArriveLemmas
mod WitnessLemmas
