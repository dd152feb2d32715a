-- Stars in the flat star table: grouping them by node, and putting each into angular order. Read in this order.
pub mod Grouped
pub mod Groups
pub mod Rows
pub mod Sorted
