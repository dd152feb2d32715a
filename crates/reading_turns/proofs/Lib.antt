-- The parts of the buffer that a turn reads into and takes.
pub mod Windows
