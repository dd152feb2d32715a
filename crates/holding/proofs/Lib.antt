-- Laws of an open ring's test point.
pub mod TestPoints
