pub mod LaneCounts
pub mod Gone
pub mod Steps
pub mod Ends
pub mod Keep
pub mod Alike
pub mod Sums
