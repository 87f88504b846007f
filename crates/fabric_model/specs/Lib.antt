pub mod Fabric
pub mod Nodes
pub mod Sides
