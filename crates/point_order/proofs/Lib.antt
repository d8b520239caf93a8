pub mod ArrangementLemmas
pub mod FamilyLemmas
pub mod OrderLemmas
pub mod PlaceLemmas
pub mod PreorderLemmas
pub mod RankLemmas
