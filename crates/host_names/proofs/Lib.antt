pub mod CacheLemmas
pub mod KeptLaws
