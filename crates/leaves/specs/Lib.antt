-- What pruning asks of the tables, and what its parts leave.
pub mod Given
pub mod Steps
