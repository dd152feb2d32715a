-- How far a text in a buffer reaches.
pub mod Texts
