pub mod Blocks
pub mod Codes
pub mod Calls
pub mod Answers
pub mod Shows
pub mod Fields
