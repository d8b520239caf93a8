pub mod Bounds
pub mod Costs
pub mod Extents
pub mod LineUses
pub mod SmallTrees
pub mod TreeNesting
pub mod Trees
