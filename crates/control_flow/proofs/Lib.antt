pub mod ControlLemmas
pub mod Fetching
pub mod WayLemmas
