-- What ring extraction leaves for a station, and what its core tells.
pub mod Calls
pub mod Telling
