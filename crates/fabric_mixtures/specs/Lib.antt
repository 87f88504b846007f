pub mod Mixtures
pub mod Moves
pub mod Packets
pub mod Verdict
pub mod Steps
