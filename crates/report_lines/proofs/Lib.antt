pub mod CollectedLaws
pub mod WriteLaws
