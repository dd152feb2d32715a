-- What links and labels write.
pub mod Links
pub mod Labels
