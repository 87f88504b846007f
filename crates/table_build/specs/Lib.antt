pub mod Exits
pub mod Links
pub mod Bests
pub mod Routing
pub mod Tables
pub mod Laws
pub mod Made
