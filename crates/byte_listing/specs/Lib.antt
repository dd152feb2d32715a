-- What listing a segment file that is held in memory ensures.
pub mod Clause
