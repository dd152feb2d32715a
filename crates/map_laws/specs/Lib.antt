-- The face to the left of a half-edge, any order of loose ends, Euler's formula.
pub mod LeftFace
pub mod AnyOrder
pub mod EulerFormula
