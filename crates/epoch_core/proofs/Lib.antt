pub mod EpochLemmas
pub mod ReportLemmas
pub mod SettleLemmas
pub mod AcceptLemmas
pub mod JoinLemmas
pub mod LawLemmas
pub mod LessLemmas
