-- The files and texts of the documents as definitions. Read in this order.
pub mod Decimal
pub mod Lines
pub mod Records
pub mod SegmentFile
pub mod RingFile
pub mod RingFileRules
pub mod Samples
