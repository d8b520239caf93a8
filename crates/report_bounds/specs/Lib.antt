pub mod Descriptions
pub mod Promises
