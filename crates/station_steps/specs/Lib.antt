-- What the station's steps leave.
pub mod Calls
