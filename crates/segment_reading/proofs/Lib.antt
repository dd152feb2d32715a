-- Turns one after another.
pub mod InParts
