-- What sorting ensures.
pub mod Clause
