pub mod Measures
pub mod Links
pub mod Moments
pub mod Directions
pub mod Moves
