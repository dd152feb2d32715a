-- Entries stored in regions of a slice.
pub mod Stores
