pub mod DivisionLemmas
pub mod OneDivision
pub mod ReplayLemmas
