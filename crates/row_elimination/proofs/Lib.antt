pub mod Adding
pub mod Summing
pub mod Parting
pub mod Matching
