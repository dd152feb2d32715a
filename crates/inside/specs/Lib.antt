-- Points in whole numbers, what the test of a ring reads, and how a line and a ring stand to a point.
pub mod Spots
pub mod Meeting
pub mod Standing
