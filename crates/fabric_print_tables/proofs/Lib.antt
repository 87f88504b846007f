mod WordLemmas
mod CountLemmas
pub mod KnownLemmas
mod StepLemmas
pub mod ReservedLemmas
