-- Laws of that order.
pub mod Ordering
