-- The search for an open ring's holder.
pub mod Search
