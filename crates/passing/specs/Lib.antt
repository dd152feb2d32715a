-- What lets a search pass many candidates by.
pub mod Passing
