-- Laws on areas and on the lists that ring extraction writes.
pub mod Halving
pub mod Written
