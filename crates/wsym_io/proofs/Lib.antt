pub mod Appending
pub mod Untold
pub mod Giving
