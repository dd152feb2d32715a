-- What one turn of reading asks and leaves.
pub mod Turns
