pub mod Ports
pub mod Histories
