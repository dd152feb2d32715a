-- Rings as they stand in lists, and their keys.
pub mod Listed
pub mod Keys
