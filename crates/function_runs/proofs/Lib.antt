pub mod FromStart
pub mod Outcomes
