-- What the searches of an addition find.
pub mod Matching
