-- The order of rings in lists, and their face numbers.
pub mod Order
pub mod Numbers
