pub mod Contexts
pub mod PointLists
pub mod Steps
