-- What is printed for a segment file.
pub mod File
