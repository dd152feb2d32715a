-- Keys, tallies and the sides of rings. Read in this order.
pub mod Keys
pub mod Tallies
pub mod Sides
