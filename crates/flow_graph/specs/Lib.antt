pub mod Flow
pub mod Graphs
pub mod Parts
pub mod Tables
pub mod Visits
