-- A map in lists and tables, and whether one ring of it holds another. Read in this order.
pub mod Maps
pub mod Holding
