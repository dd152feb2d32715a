-- Rings as they stand in the lists that ring extraction writes.
pub mod Shown
