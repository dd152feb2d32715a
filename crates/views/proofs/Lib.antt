-- What is inside a ring, and that it stays inside in a slanted view.
pub mod Beside
pub mod Slants
