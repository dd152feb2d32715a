-- How much of a slice is lent.
pub mod Lent
