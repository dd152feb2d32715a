-- the tests of ring extraction
pub mod Tests
-- how many rings are open
pub mod Opening
