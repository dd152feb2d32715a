-- signed numbers of 64 bits by their bits
pub mod Signs
-- files of records
pub mod ByteLaws
pub mod ReadingLaws
pub mod RingFileLaws
pub mod RingFileWritten
pub mod RingFileCalls
