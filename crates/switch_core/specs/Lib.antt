pub mod Switch
pub mod Sessions
pub mod Steps
pub mod Bytes
pub mod Going
pub mod Sound
pub mod Stands
pub mod Kept
