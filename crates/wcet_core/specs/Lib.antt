pub mod Agreement
pub mod Analyses
pub mod Refusals
