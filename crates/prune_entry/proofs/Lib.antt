-- pruning's tests, and what follows them
pub mod Shell
-- the tables as they are lent
pub mod Lent
-- a refusal changes nothing lent
pub mod Refusals
