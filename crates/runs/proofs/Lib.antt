-- a run as calls and files of the rules
pub mod Acts
-- the tallies of the walks
pub mod Tallying
-- demand 3
pub mod Demand3
-- no tracing can stop a consultation
pub mod Going
-- the line ids behind each edge
pub mod Behind
