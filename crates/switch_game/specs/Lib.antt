pub mod Network
pub mod Playing
pub mod Quiet
