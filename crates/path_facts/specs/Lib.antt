pub mod Example
pub mod Facts
pub mod Histories
pub mod Offsets
pub mod Routes
pub mod Sources
pub mod StackUse
