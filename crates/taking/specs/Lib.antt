-- Taking the records of a segment file, by the rules and by the code's answers. Read in this order.
pub mod Taking
pub mod Answers
