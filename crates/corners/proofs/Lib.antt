-- Laws of reading whole numbers, of the order of nodes, and of boxes.
pub mod Whole
pub mod Fronts
pub mod Firsts
pub mod Lefts
pub mod Stamps
pub mod Boxing
