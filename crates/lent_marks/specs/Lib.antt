-- Marks that are lent as bytes, and the tests of them.
pub mod Marks
pub mod Checks
