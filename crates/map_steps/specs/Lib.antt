-- What the steps from a built graph to its rings ask and leave. Read in this order.
pub mod Stands
pub mod Maps
pub mod Rings
