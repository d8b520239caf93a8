pub mod BelowLemmas
pub mod ListLemmas
pub mod OrderLemmas
pub mod RowLemmas
pub mod SearchLemmas
pub mod StampLemmas
pub mod WalkLemmas
