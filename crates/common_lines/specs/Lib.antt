pub mod Words
pub mod Lines
pub mod Faults
pub mod Chains
pub mod Grammar
pub mod Stops
