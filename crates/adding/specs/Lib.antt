-- Adding a line, over the lists that each function reads and writes. Read in this order.
pub mod Decisions
pub mod Written
pub mod Outcomes
