-- Walks along the lists of line ids.
pub mod Walks
