-- What ring extraction with the hole list ensures, and what its tests say.
pub mod Clause
pub mod Checks
-- the open rings of a list of sides
pub mod Open
