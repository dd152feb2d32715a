-- laws that the proofs of the functions use
pub mod Latest
pub mod Turns
