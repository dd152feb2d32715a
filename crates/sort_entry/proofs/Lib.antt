-- sorting's tests
pub mod Shell
-- a refusal changes nothing lent
pub mod Refusals
