pub mod OrderingLemmas
pub mod ListLemmas
pub mod MemberLemmas
pub mod PairLemmas
pub mod FlatMapLemmas
pub mod PigeonLemmas
pub mod TestLemmas
pub mod RangeLemmas
