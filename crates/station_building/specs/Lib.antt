-- What creating and adding leave for a station.
pub mod Calls
