-- fills
pub mod Filling
pub mod Turns
-- piece numbers
pub mod Sweeping
pub mod Numbering
