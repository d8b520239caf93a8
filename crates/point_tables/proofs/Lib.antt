pub mod ArrangedLemmas
pub mod CutLemmas
pub mod FaultLemmas
pub mod LinkLemmas
pub mod PlacementLemmas
pub mod PointwiseLemmas
pub mod SourceLemmas
pub mod TableLemmas
