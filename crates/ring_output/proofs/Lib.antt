-- What was written ends within its buffer, and is told of the bytes that were read.
pub mod Outputs
