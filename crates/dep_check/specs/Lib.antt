-- definitions that public contracts cite
pub mod Channels
pub mod Packets
pub mod Illegal
pub mod Answer
pub mod Laws
pub mod Tables
-- definitions that only private functions cite
pub mod Search
pub mod Rounds
pub mod Walks
pub mod Targets
pub mod Pairs
pub mod Ports
pub mod Worst
pub mod Deep
pub mod Tiers
