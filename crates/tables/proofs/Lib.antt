-- Laws of a row written over a table, and of the regions of slices.
pub mod Writing
pub mod Regions
pub mod SliceRoom
