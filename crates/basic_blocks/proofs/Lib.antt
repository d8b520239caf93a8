pub mod AgreementLemmas
pub mod BlockLemmas
pub mod ChainLemmas
pub mod LiveLemmas
pub mod NumberLemmas
pub mod RouteLemmas
pub mod SplitLemmas
pub mod VisitLemmas
