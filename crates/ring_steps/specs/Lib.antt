-- The ring file of a graph that was built.
pub mod File
