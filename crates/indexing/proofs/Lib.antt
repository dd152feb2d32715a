-- Where a line's id goes, and the lowest free place.
pub mod Places
