-- What the cases of a record say, in the documents' numbers and values. What bytes begin with is `segment_next` of rules.
pub mod Record
pub mod Worked
