pub mod Io
pub mod Files
pub mod Faulty
