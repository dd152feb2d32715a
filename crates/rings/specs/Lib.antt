-- What walking rings asks and leaves, over the tables.
pub mod Listing
