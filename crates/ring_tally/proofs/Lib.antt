-- The sides that areas tell.
pub mod Siding
