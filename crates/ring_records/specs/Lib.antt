-- The ring file of a map, and what its functions ask. Read in this order.
pub mod File
pub mod Given
