pub mod GuardLemmas
pub mod KnownWords
pub mod RangeLemmas
pub mod TableLemmas
