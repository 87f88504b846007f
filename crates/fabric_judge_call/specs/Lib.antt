pub mod Said
pub mod Arguments
pub mod Words
pub mod Steps
pub mod Questions
