pub mod EdgeRows
pub mod ExactEdges
pub mod FlowLevels
pub mod LevelPlaces
pub mod LevelRows
pub mod PathEdges
