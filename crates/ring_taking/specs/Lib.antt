-- Rings taken into lent lists.
pub mod Taken
