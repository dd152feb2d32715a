-- Bytes moved to the front of a buffer.
pub mod Moving
