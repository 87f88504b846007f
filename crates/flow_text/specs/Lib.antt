pub mod Sends
pub mod Flows
pub mod FlowRuns
