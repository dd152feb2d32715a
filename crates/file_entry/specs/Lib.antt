-- What adding the records of a segment file ensures.
pub mod Clause
