pub mod Division
pub mod Replays
