pub mod Topology
pub mod Table
pub mod Stands
