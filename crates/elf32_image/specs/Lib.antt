pub mod Fields
pub mod Header
pub mod Sections
pub mod Segments
pub mod Parts
pub mod Bytes
pub mod Names
pub mod Index
