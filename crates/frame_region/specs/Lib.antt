pub mod Sizes
pub mod Blocks
pub mod Regions
pub mod Inside
