-- An older station beside a newer one: their limits, what a file of sound segments draws, and what the two answer. Read in this order.
pub mod Wider
pub mod Drawing
pub mod Older
pub mod Entry
pub mod Worked
