pub mod Causes
pub mod TableLines
pub mod Tables
pub mod Readings
pub mod Reads
