pub mod Basics
pub mod Lists
mod SentLemmas
mod ViewLemmas
pub mod Moments
pub mod Nodes
pub mod StreamLemmas
mod Orders
mod OfferLemmas
mod ImproveLemmas
mod EpochLaws
mod HandshakeLemmas
mod LeaverLemmas
mod StateLemmas
mod LeavingLemmas
mod MemberLemmas
mod ContentLemmas
mod DetectLemmas
pub mod FinishLemmas
pub mod TopologyLemmas
mod WholeLemmas
mod MomentStates
pub mod DeliveredLemmas
pub mod GameLemmas
