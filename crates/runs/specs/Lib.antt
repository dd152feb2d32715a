-- What follows of every list of calls. Read in this order.
pub mod Tallying
pub mod Runs
pub mod Going
pub mod LineIds
