pub mod FiledLemmas
pub mod HopLemmas
pub mod PacketLemmas
pub mod SearchLemmas
pub mod StepLemmas
