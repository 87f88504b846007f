pub mod Disturbances
pub mod Views
pub mod Settling
pub mod Claims
