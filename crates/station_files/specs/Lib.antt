-- What the entries on segment files leave.
pub mod Calls
