-- What reads bring, what is kept of them and what is dropped.
pub mod Reads
