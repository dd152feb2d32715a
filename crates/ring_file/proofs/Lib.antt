-- The two calls, case by case.
pub mod Writing
pub mod Reading
