-- What reading a segment file as it comes leaves.
pub mod Reading
