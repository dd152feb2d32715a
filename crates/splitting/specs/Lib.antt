-- What splitting asks and leaves, over the tables.
pub mod Splits
