pub mod CollectLemmas
pub mod ContextLemmas
pub mod GatherLemmas
pub mod MemberLemmas
pub mod PointLemmas
pub mod StepLemmas
