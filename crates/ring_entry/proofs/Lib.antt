-- Parts of the slices, lent to the core.
pub mod Lending
