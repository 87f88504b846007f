pub mod Answers
pub mod Ranks
pub mod Pictures
pub mod RowWords
