-- A side read back, and the sides that ring extraction replies.
pub mod Reading
pub mod Replied
