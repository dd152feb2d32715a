-- What the numbers, refusals and tables of the code say in terms of the rules.
pub mod Refusals
pub mod Tables
pub mod Regions
