pub mod Packets
pub mod Filed
