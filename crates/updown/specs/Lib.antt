pub mod Routes
pub mod Lengths
pub mod Order
pub mod Distances
