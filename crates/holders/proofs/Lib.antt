-- What finding the holes asks is there.
pub mod Agreeing
pub mod Asking
pub mod RingsAsked
