pub mod ProbedRuns
pub mod Weights
pub mod Agreement
