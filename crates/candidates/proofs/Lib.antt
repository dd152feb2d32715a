-- Laws of the numbers of candidates, of rings that pass every node, and of listing the enclosed rings.
pub mod Numbers
pub mod Covering
pub mod Listing
