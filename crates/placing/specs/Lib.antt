-- Where a line's id goes.
pub mod Placing
