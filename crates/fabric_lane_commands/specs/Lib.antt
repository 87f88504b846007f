pub mod Asked
pub mod Inputs
pub mod Silence
pub mod LaneJudged
pub mod LaneDrawn
pub mod LaneCall
