pub mod Facts
pub mod Fronts
pub mod Discovered
pub mod Dumped
pub mod Plain
pub mod Texts
pub mod Unset
pub mod Names
