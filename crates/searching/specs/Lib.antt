-- The searches of an addition.
pub mod Searches
