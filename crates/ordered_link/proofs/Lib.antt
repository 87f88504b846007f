pub mod KeepLemmas
pub mod SendingLemmas
pub mod SessionLemmas
