pub mod Witness
pub mod Search
