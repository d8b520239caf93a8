pub mod Following
pub mod Headers
pub mod Steps
