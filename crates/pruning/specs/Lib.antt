-- What pruning leaves.
pub mod Left
