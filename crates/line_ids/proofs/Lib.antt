-- Laws of the places in use and the free ones: what each says, and its steps as a loop makes them.
pub mod Marked
pub mod FreePlace
pub mod Looking
