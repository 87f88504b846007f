pub mod Queues
pub mod Frames
pub mod WireState
