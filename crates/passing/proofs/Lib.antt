-- Laws of passing by many at once.
pub mod Passes
