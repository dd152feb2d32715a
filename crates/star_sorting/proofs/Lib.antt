-- Laws of the stars in a row, each of them sorted.
pub mod Parts
pub mod Stars
