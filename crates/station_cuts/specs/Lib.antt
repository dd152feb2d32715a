-- What pruning and cutting leave.
pub mod Calls
