-- The values of the reply.
pub mod Values
