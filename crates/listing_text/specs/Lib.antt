-- Room for the listing's lines. The text itself is rules/specs/Lines.antt. Read in this order.
pub mod Rooms
pub mod Worked
