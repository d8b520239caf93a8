pub mod CutLemmas
pub mod DepthLemmas
pub mod GraphLemmas
pub mod NumberLemmas
