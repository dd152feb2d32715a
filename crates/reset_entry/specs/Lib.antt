-- What resetting ensures.
pub mod Clause
