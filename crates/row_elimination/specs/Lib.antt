pub mod Weights
pub mod Derivations
pub mod Steps
