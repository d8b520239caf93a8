pub mod Points
pub mod Evidence
pub mod Answers
pub mod Placing
pub mod Deciding
