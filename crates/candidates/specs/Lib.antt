-- The enclosed rings with their boxes and doubled areas.
pub mod Candidates
