pub mod BlockOrders
pub mod Counts
pub mod Loops
pub mod Nests
pub mod Rounds
pub mod Tables
pub mod Trails
