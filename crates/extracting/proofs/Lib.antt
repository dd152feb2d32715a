-- Laws for ring extraction.
pub mod Starts
pub mod Numbering
pub mod Outcome
pub mod Arranging
pub mod Listing
pub mod Pairs
pub mod FacesApart
