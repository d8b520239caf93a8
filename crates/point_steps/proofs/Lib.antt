pub mod AccessLemmas
pub mod ChangeLemmas
pub mod Listed
pub mod OffsetLemmas
