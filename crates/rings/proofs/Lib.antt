-- Laws of walking and summing over the tables.
pub mod Entries
pub mod Keying
pub mod Walking
pub mod Walkable
pub mod Rows
pub mod Bounds
pub mod Meaning
