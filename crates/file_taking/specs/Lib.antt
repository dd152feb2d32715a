-- Adding the records of a segment file, by the rules and by the code's answers. Read in this order.
pub mod FileAdding
pub mod Replies
