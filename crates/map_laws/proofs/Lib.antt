-- the face to the left
pub mod LeftFaces
pub mod LeftOnly
pub mod LeftSketches
pub mod Mirrored
-- pruning in any order
pub mod AnyOrder
pub mod PruneOrder
pub mod PrunedEdges
pub mod PrunedLines
pub mod LooseEnds
-- Euler's formula
pub mod EulerFormulas
