-- What listing a built graph asks. The text itself is rules/specs/Listing.antt.
pub mod Due
