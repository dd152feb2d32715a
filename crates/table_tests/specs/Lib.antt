-- What the tests of the tables say in terms of the rules, and what they are given.
pub mod Tests
pub mod Given
