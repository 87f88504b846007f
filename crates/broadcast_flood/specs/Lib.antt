pub mod Tree
pub mod Floods
pub mod Kept
pub mod Cycles
