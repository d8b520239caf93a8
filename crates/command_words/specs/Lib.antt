pub mod Numerals
pub mod Parts
pub mod Places
pub mod Options
pub mod Analyses
pub mod Valuations
pub mod Commands
