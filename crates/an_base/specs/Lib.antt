pub mod Values
pub mod Order
pub mod TotalOrders
pub mod Numbers
pub mod Tree
pub mod Rows
pub mod Ports
pub mod Frames
