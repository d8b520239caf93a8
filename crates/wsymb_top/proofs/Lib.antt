pub mod Answering
pub mod Deciding
