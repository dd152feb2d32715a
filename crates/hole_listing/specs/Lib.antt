-- What listing the holes asks.
pub mod Listing
