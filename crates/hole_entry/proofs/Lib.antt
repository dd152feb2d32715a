-- what the core makes
pub mod Outcome
-- a refusal changes nothing lent
pub mod Refusals
