-- cutting's tests, and what follows them
pub mod Shell
-- a refusal changes nothing lent
pub mod Refusals
