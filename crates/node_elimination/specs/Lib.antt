pub mod Cells
pub mod GivenLevels
pub mod LevelPlans
pub mod LevelStates
pub mod Measures
pub mod Tables
