-- Rings in lent lists, and where reading them ends.
pub mod Lists
pub mod Filling
pub mod Ends
