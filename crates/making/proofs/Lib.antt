-- the searches
pub mod Searching
-- the counts with what is new
pub mod Counting
-- where a line's id goes
pub mod Placing
