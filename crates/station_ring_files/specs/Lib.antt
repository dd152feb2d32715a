-- What the calls leave.
pub mod Calls
