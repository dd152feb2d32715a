-- Laws over the definitions: one record, records one after another, what taking leaves, parts of a file, a file as its segments.
pub mod Records
pub mod Turns
pub mod Left
pub mod Parts
pub mod Segments
