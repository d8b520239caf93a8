pub mod CoverLemmas
pub mod JoinLemmas
pub mod NumberLemmas
pub mod RealizedLemmas
pub mod SearchLemmas
pub mod SolvedLemmas
pub mod WeightLemmas
