pub mod Analyses
pub mod Functions
pub mod Turns
pub mod Visits
