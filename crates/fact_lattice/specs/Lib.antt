pub mod Cells
pub mod Flows
pub mod Searches
pub mod Weights
