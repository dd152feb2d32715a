-- what an answer writes
pub mod Replying
-- from a public entry to the station's
pub mod Handing
