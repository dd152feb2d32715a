-- Chains of nodes by key and of half-edges by ends. Read in this order.
pub mod Codes
pub mod Indexed
