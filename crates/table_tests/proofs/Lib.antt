-- Laws of the tests and loops of this crate, and what number 6 and number 7 give to its functions.
pub mod Testing
pub mod Standing
pub mod SoundTests
pub mod Shells
