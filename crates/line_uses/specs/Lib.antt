pub mod BlockRows
pub mod Leaves
pub mod PointMaps
pub mod Scopes
pub mod SearchSteps
