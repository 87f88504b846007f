pub mod LaneLineLemmas
pub mod LanesLaws
pub mod LaneReadingLemmas
pub mod LaneLemmas
mod OwnerLemmas
pub mod LevelsLaws
pub mod LevelReadingLemmas
