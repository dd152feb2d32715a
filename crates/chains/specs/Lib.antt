-- Items chained by their codes.
pub mod Chains
