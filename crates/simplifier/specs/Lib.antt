pub mod Normal
pub mod Simplified
pub mod Sizes
