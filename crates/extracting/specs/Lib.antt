-- What ring extraction asks and leaves.
pub mod Extraction
pub mod Sides
