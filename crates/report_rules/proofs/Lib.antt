pub mod LoopLaws
pub mod RowTests
