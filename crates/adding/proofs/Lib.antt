-- Laws that the proofs of the functions share.
pub mod Between
pub mod Deciding
pub mod Making
pub mod Carrying
pub mod Kept
