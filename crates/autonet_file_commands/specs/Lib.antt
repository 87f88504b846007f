pub mod Check
pub mod Flood
pub mod Flow
pub mod Complete
pub mod Answers
