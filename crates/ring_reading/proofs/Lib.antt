-- A ring's record, and a file read record by record.
pub mod Records
pub mod Progress
