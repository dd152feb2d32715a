-- Slanted views of a map.
pub mod Views
