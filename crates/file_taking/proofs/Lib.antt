-- what a taking came to
pub mod Ending
-- a file is its segments added one by one
pub mod Segments
