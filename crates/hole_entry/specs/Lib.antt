-- What ring extraction with the hole list answers, and what its core makes. Its clause is in hole_checks.
pub mod Replies
pub mod Making
