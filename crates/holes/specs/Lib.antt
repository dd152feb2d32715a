-- The lent list of holes: what is written into it, and the holes that it holds.
pub mod Filled
pub mod Lent
