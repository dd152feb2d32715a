-- What the searches ask, from a graph that can be added to.
pub mod Seekable
