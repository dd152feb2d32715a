-- Walks along the successors.
pub mod Walks
