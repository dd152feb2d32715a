-- entries
pub mod Entries
-- links
pub mod Linking
-- labels
pub mod Labelling
