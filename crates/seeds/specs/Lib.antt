-- What fills, the order of seeds and piece numbers are. Read in this order.
pub mod Reach
pub mod Seeds
pub mod Numbers
