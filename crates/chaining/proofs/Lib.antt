-- The chains of a graph, before and after an addition.
pub mod Growing
