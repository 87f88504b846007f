pub mod Facts
pub mod Steps
pub mod Seats
pub mod Turns
