-- What listing the rings asks and leaves.
pub mod Listing
