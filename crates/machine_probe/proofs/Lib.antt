pub mod Places
pub mod Showing
pub mod Tallies
pub mod Ongoing
pub mod Agreeing
