-- Room for the lines of the rings.
pub mod Rooms
