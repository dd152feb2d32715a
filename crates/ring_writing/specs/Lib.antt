-- Rings lent as lists, by their places.
pub mod Rings
