-- laws that the proofs of the functions use
pub mod Runs
pub mod Groups
