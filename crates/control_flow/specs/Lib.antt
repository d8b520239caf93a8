pub mod Controls
pub mod Instructions
pub mod Points
pub mod Routes
pub mod Ways
