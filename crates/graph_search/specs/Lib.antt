pub mod Flows
pub mod Marking
pub mod NodeLists
pub mod Orders
pub mod Rows
pub mod Searches
pub mod Walks
