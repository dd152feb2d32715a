-- Integers in signed 64 bits, how a line stands to a point, and the walk around a ring.
pub mod Words
pub mod Turns
pub mod Meetings
pub mod Walking
pub mod Standing
pub mod Tables
