pub mod Results
pub mod Lines
pub mod Causes
pub mod Agreement
