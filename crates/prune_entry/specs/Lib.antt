-- What pruning asks of the slices, answers and ensures.
pub mod Given
pub mod Replies
pub mod Clause
