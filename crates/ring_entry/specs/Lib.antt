-- What ring extraction asks of the slices and answers.
pub mod Given
pub mod Replies
