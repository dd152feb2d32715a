-- Laws that the proofs of the functions share.
pub mod Patterns
pub mod Found
