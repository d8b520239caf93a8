pub mod LevelEdges
pub mod Levels
pub mod Nests
pub mod NodeOrders
pub mod Pieces
pub mod Trails
pub mod Ways
