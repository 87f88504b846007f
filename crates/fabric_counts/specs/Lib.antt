pub mod Counts
pub mod Steps
pub mod Lost
pub mod Heights
