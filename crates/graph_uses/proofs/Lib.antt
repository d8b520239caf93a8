pub mod TableLemmas
