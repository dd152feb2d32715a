-- What the questions leave.
pub mod Questions
pub mod Reading
