-- The tests that a call begins with, and what came out of it.
pub mod Checks
pub mod Replies
