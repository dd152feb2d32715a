-- Laws that the proofs of the functions share, and what a frame says of its bytes.
pub mod Bytes
pub mod Cases
pub mod FrameLaws
