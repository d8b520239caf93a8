pub mod Blocks
pub mod Chains
pub mod LivePoints
pub mod PointOrder
