-- cut edges
pub mod Cutting
-- Euler's formula
pub mod Balance
-- the whole
pub mod Outcome
