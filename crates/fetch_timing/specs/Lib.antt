pub mod Caches
pub mod Staying
pub mod Tables
pub mod TimingFiles
pub mod Timings
