-- the tests of the entry
pub mod Shell
-- demand 1: a refusal changes nothing lent
pub mod Refusals
