pub mod Naming
pub mod Evaluations
pub mod Lines
