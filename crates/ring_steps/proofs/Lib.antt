-- No ring of a sound graph is empty.
pub mod Rings
