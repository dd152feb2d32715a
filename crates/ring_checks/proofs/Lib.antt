-- the tests of ring extraction
pub mod Shell
