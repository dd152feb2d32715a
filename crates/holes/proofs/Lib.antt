-- writing into a list, entry by entry
pub mod Filling
