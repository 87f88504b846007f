pub mod LaneRoutes
pub mod LaneExits
pub mod LaneFound
pub mod LaneWays
pub mod Routing
