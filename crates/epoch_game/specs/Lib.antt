pub mod Slice
pub mod Streams
pub mod Improving
pub mod Leaving
pub mod Content
pub mod Detection
pub mod Delivered
pub mod Game
