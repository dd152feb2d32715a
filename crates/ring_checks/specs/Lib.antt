-- What ring extraction without the hole list ensures, and what its tests say.
pub mod Clause
pub mod Checks
