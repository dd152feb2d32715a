-- Laws of the order of rings, of places in a row in order, and of face numbers.
pub mod Rankings
pub mod FacesApart
pub mod Places
pub mod Rings
pub mod Filled
pub mod Worked
