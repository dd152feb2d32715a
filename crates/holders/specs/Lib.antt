-- What finding the holes asks.
pub mod Asked
-- of the lists that ring extraction wrote
pub mod Finding
