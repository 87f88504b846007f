pub mod Lanes
pub mod PathLevels
pub mod Levels
pub mod InUse
