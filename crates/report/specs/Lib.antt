pub mod Events
pub mod Retellings
pub mod Moments
pub mod Beliefs
pub mod Remembering
