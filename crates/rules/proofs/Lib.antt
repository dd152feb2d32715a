-- the cycles of a function that permutes the active half-edges
pub mod Walks
pub mod CycleLaws
pub mod Partition
pub mod LabelLaws
pub mod Permuting
pub mod Framing
-- procedures that walk and mark
pub mod Marking
pub mod Sweep
pub mod Naming
-- half-edges, successors, splitting, rings
pub mod Twin
pub mod RingSums
pub mod Successor
pub mod Scans
pub mod Splitting
pub mod Rings
pub mod Counting
pub mod Agreement
-- states, replies, sketches, and what the two claims come from
pub mod ListSoundness
pub mod Soundness
pub mod AddCases
pub mod Tables
pub mod Replies
pub mod ExtractionLaws
pub mod NamingSteps
pub mod PointLaws
pub mod Sketches
pub mod SketchCalls
pub mod Claims
pub mod Areas
-- holes, and the two claims
pub mod HoleLaws
pub mod ShapedRings
pub mod HolesAgree
pub mod HolesDrawn
pub mod ExtractionClaims
-- the tables follow the sketch, call by call
pub mod Following
pub mod Pruning
pub mod FollowingPrune
pub mod Sorting
pub mod Simple
pub mod Finding
pub mod TwoEntries
pub mod Growing
pub mod Joining
pub mod Additions
pub mod Histories
-- what pruning leaves
pub mod Dangles
pub mod PruneEnds
pub mod PrunedTables
-- pieces: nodes that paths join, and their numbers
pub mod Values
pub mod Spreading
pub mod Roots
pub mod PieceCounts
pub mod CountsAgree
pub mod Orders
pub mod PieceNumbers
-- facts back into tests
pub mod Sounding
-- the ids behind each edge
pub mod PlaceChains
pub mod Listed
pub mod Entering
pub mod KeepingLists
pub mod FreePlaces
-- a state stays sound through an addition
pub mod NodeSound
pub mod EdgeSound
pub mod AddingSound
-- every call keeps the tables long enough and sound
pub mod Staying
pub mod Sparing
pub mod Going
-- files as calls
pub mod Filing
pub mod FileFloats
pub mod FileTests
-- the ids of each edge after a list of calls
pub mod Refused
pub mod TracedAdding
pub mod TracedCalls
pub mod FullTable
-- what loops over the lists of ids need
pub mod IdLoops
pub mod PairsTaken
pub mod ListTest
-- a ring and what lies beside it
pub mod Crossings
