pub mod Waves
pub mod LaneSteps
pub mod LaneGates
pub mod LaneBlocks
