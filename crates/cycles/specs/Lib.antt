-- What cuts and the census write.
pub mod Cuts
pub mod Census
pub mod Arranged
