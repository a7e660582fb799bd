pub mod Parts
pub mod Tallies
pub mod Summaries
pub mod Held
pub mod Nests
pub mod Reads
pub mod Writes
pub mod WriteOut
