-- definitions that public contracts cite
pub mod Layout
pub mod Flows
pub mod Moves
pub mod Runs
pub mod Sound
pub mod Exits
pub mod View
-- definitions that only private functions cite
pub mod Queue
pub mod Board
pub mod Sets
pub mod Turns
pub mod Marks
pub mod Ahead
pub mod Watch
