pub mod LaneAnswers
pub mod LanePictures
