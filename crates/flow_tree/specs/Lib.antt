pub mod Descriptions
pub mod FlowTables
pub mod LevelNumbers
pub mod LevelTasks
