-- What the functions of this crate compute, and what they ask of the tables that they are lent.
pub mod Free
pub mod Seeking
