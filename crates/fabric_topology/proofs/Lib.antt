pub mod DumpedLemmas
mod NameLemmas
