-- What the definitions give for small inputs, beside what is expected: one table and one proof a file. Read in this order.
pub mod Tracings
pub mod Ids
pub mod Holes
pub mod Files
pub mod FileReplies
pub mod Listings
