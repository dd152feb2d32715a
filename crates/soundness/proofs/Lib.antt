-- Number 7 of the tables and of the lists of line ids.
pub mod BothLists
