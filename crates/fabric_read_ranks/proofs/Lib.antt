mod StopLemmas
pub mod RankLemmas
