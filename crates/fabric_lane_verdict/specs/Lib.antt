pub mod LaneVerdict
pub mod LaneJudgements
