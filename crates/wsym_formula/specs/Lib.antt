pub mod Counts
pub mod Keeping
pub mod Placing
pub mod Reaching
pub mod Tables
pub mod Terms
pub mod Trees
pub mod Values
