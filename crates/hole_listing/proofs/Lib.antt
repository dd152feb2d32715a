-- Laws of that listing.
pub mod Openings
pub mod ListingLaws
