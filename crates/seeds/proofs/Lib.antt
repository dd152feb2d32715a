-- what half-edges reach
pub mod Reaching
pub mod Stars
pub mod Spreading
-- the order of seeds
pub mod Signs
pub mod SeedOrder
pub mod Lowest
