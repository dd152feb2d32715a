-- the tests of a call, one after another
pub mod Shells
-- the numbers that the tests answer
pub mod Numbers
-- a refusal changes nothing lent
pub mod Refusals
