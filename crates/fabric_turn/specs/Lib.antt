pub mod Calls
pub mod History
pub mod Names
pub mod Plays
pub mod Rule
pub mod Seats
pub mod Turnstiles
