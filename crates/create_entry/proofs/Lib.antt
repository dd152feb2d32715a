-- creating's test, and what follows it
pub mod Shell
-- a refusal changes nothing lent
pub mod Refusals
