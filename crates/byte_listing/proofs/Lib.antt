-- Laws over the definitions: a new graph over slices of zeros, and a file that is taken to its end.
pub mod Empty
pub mod Files
