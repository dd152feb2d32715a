-- Where nodes lie, which are stamped, the test point, and the sides of a box.
pub mod Nodes
pub mod Boxes
