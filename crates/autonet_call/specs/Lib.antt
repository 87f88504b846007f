pub mod Status
pub mod Answer
pub mod Scripted
pub mod Expect
