pub mod Check
pub mod Runs
