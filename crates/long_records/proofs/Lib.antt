-- What taking leaves for the next read, and a record that was not held.
pub mod Waiting
pub mod LongRecords
