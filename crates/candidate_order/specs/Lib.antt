-- The order in which a search meets the candidates.
pub mod Order
