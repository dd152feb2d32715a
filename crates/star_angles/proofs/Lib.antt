-- Laws of where half-edges end, and of their order.
pub mod Points
pub mod Angular
