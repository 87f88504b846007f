pub mod Graph
pub mod Rows
pub mod Cycles
pub mod Search
pub mod Verdict
