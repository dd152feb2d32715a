-- Laws of the chains of nodes and half-edges.
pub mod Coding
