pub mod RankLines
pub mod Ranks
pub mod Readings
