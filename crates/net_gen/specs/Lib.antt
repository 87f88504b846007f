pub mod Drawn
pub mod Generated
pub mod Made
pub mod Summary
