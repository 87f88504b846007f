pub mod FlowSends
pub mod FlowTurns
pub mod FlowLaws
pub mod FlowArrivals
pub mod FlowTexts
pub mod FlowFates
