pub mod Cuts
pub mod Digits
pub mod Heads
pub mod LaneCauses
pub mod RanksCauses
pub mod Rows
pub mod Says
