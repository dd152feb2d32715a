-- Laws of that search.
pub mod Boxes
pub mod HoldingLaws
pub mod Searching
