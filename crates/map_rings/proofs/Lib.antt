-- Laws on the lists that ring extraction writes.
pub mod Extracted
