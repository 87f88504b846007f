pub mod Router
pub mod Calls
pub mod Tree
pub mod Shown
