pub mod Words
pub mod Names
pub mod Judged
pub mod Certified
pub mod Verifying
pub mod Drawn
pub mod Given
