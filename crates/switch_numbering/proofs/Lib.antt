pub mod Counting
pub mod Differing
