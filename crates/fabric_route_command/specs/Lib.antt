pub mod Joined
pub mod Parts
pub mod Measured
pub mod Loads
pub mod Routed
