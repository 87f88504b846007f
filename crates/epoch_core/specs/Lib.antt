pub mod Log
pub mod Epoch
pub mod Heard
pub mod StandsFor
pub mod Steps
pub mod Laws
