pub mod Verdict
pub mod Packets
pub mod Count
pub mod Steps
pub mod Judgements
pub mod Verified
pub mod Traffics
