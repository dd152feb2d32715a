-- Laws of splitting over the tables.
pub mod Parts
pub mod Splitting
