-- limits beside each other
pub mod Widening
-- a drawing only grows
pub mod Growing
-- what an addition comes to after its tests
pub mod Searched
-- what its segment draws
pub mod Counted
-- one addition at both stations
pub mod Turns
-- takings of both, side by side
pub mod Walks
-- records one after another
pub mod Files
-- what the end of the older one's says
pub mod Endings
-- the law, and the call that adds a file's records
pub mod Older
pub mod Entry
