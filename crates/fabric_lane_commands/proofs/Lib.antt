mod LaneEndLemmas
mod LevelLemmas
mod SilenceLemmas
