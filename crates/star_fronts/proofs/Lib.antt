-- A star that is turned.
pub mod Turning
