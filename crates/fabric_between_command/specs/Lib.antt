pub mod Lines
pub mod Judged
pub mod Answer
