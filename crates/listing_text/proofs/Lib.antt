-- Laws on how long the lines are.
pub mod Lengths
pub mod Nodes
