pub mod Caching
pub mod Fetching
pub mod Limits
pub mod Names
pub mod Numbers
pub mod Staying
pub mod Tabling
pub mod Texts
