-- Laws of grouped stars.
-- rows of lists, and the counting sort that makes one of the stars
pub mod Rows
pub mod Counting
pub mod Placing
pub mod Grouping
-- a star as a part of the row
pub mod Groups
-- from the tests of numbers 6 and 7, and to the rules' sorting
pub mod Sound
