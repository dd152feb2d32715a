-- What an addition ensures.
pub mod Clause
