-- What creating answers and ensures.
pub mod Replies
pub mod Clause
