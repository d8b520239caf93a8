pub mod Faults
pub mod Numbers
pub mod Tables
pub mod Targets
