pub mod Moments
pub mod CallLemmas
pub mod Ready
pub mod Ordered
pub mod Joined
pub mod Claims
pub mod Switches
