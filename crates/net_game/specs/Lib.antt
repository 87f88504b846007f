pub mod Histories
pub mod Lives
pub mod Moves
pub mod Embedding
pub mod Meeting
