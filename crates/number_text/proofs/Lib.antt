-- Laws on decimals.
pub mod Decimals
