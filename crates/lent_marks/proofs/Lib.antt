-- marks written over bytes
pub mod Blending
-- the tests of bytes
pub mod Testing
