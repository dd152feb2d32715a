-- Writing a new node, a new edge, and a new line id behind an edge.
pub mod Written
