pub mod Reports
pub mod Walk
