pub mod AddedWays
pub mod PlanSteps
pub mod Plans
pub mod Stages
pub mod TreeDepths
pub mod Weights
