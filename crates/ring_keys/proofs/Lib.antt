-- Laws of rows, and of keys in lists.
pub mod Rows
pub mod KeyLists
