-- Laws of chains: one more item, and the walk along a chain.
pub mod Chaining
pub mod Walking
