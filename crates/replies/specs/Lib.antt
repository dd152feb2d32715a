-- What is lent beside the tables, the values of each reply, and what a call leaves. Read in this order.
pub mod Lent
pub mod Values
pub mod Left
