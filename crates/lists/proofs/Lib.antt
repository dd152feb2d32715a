-- Laws of lists of numbers. Membership is a count, so that arithmetic decides most of it.
pub mod Counts
pub mod Tests
pub mod Sums
pub mod Members
pub mod Rounds
pub mod Sorting
pub mod Searching
pub mod Passing
pub mod Entries
pub mod Halving
pub mod Inserting
pub mod Rising
-- texts in a buffer
pub mod Buffers
