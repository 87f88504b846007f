pub mod Lines
pub mod Facts
pub mod Fabrics
pub mod Causes
