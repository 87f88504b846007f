pub mod Reported
pub mod Replay
pub mod Names
pub mod Gen
pub mod Run
pub mod InTime
pub mod Complete
pub mod Words
