-- The insertion sort.
pub mod Insertion
