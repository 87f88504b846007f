pub mod LaneLines
pub mod Lanes
pub mod LaneReadings
pub mod LaneReads
pub mod LevelLines
pub mod Levels
pub mod LevelReadings
pub mod LevelReads
