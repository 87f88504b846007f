pub mod Blocks
pub mod Boxes
pub mod Drops
pub mod ClockLemmas
