-- Laws on the records of rings that lists hold.
pub mod Records
