-- What the code's answers say in the definitions' words.
pub mod Found
