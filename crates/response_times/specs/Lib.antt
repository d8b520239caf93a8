pub mod Responses
pub mod Shares
