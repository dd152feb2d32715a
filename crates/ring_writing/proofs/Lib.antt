-- Bytes in a row, and the places of rings.
pub mod Bytes
pub mod Places
