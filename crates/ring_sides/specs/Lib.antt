-- The side of a ring by its number and its area.
pub mod Sides
