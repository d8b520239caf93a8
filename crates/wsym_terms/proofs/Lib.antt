pub mod BoundLaws
pub mod CostLaws
pub mod ExtentLaws
pub mod GrowthLaws
pub mod SmallTreeLemmas
pub mod SplitLaws
pub mod TreeLaws
