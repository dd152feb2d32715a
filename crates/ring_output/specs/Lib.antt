-- What is written for the program's input.
pub mod Output
