pub mod Arrangements
pub mod Families
pub mod Ranks
